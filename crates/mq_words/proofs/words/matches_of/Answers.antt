use Rattle.std.proofs.Common.{rules, ap, ap₂, codes, Some, true, false, map, List, [], ◌∷◌, ℕ, ◌≡◌, ◌∙◌, subst, sym}
use Rattle.std.specs.List.{AllByRecursion}
use Rattle.std.proofs.lemmas.Result.{IfErr-weaker, IfOk-weaker}
use Rattle.clap.specs.Built.{AddsArg, AddsInTurn}
use Rattle.clap.specs.Matches.{found_of}
use Rattle.clap.specs.Simple.{App, app_of, app_of_fields, is_simple, matches_of, new_rule, with_rule}
use Rattle.clap.specs.Takes.{takes}
use Rattle.clap.specs.declared.builder.arg.Arg.{Arg}
use Rattle.clap.specs.declared.builder.command.Command.{Command}
use Rattle.clap.specs.Walk.{Rule, rule_of}
use Rattle.mq_words.proofs.Matches.{finds, taken}
use Rattle.mq_words.proofs.Walks.{app, app_is_simple, bare_app, jobs_rule, option_rule}
use Rattle.mq_words.proofs.words.matches_of.Goals as goal

-- what the two settings make of the command
abbrev set : App → App
set a = record a { top = record a.top { no_binary_name = true; disable_help_flag = true } }

-- a command with more rules, one after another
abbrev with_rules : App → List Rule → App
with_rules a [] = a
with_rules a (r ∷ rs) = with_rules (with_rule a r) rs

abbrev IsLocal : Arg → Type 0
IsLocal a = a.global ≡ false

-- arguments that are added in turn add their rules in turn
in_turn : (old new : Command) (args : List Arg) → AddsInTurn AddsArg old args new → AllByRecursion IsLocal args → app_of new ≡ with_rules (app_of old) (map rule_of args)
in_turn old new [] same all = ap app_of (sym same)
in_turn old new (a ∷ more) added all = in_turn added.0 new more added.2 all.1 ∙ ap (λ (z : App). with_rules z (map rule_of more)) (added.1.shape all.0)

more_rules : {x y : Rule} {xs ys : List Rule} → x ≡ y → xs ≡ ys → (x ∷ xs) ≡ (y ∷ ys)
more_rules first rest = ap₂ (λ r rs. r ∷ rs) first rest

-- the command is the one that the lemmas are about
command_is : (c : goal.After-try_get_matches_from) → app_of c.in_ok-command.command ≡ app
command_is c =
    let option = λ (id : List ℕ) (r : Rule). record r { long = Some id } in
    let global = λ (a : Arg). a.global in
    let model_is : rule_of c.new.result ≡ new_rule (codes "model") = search rules in
    let trace_is : rule_of c.new-2.result ≡ new_rule (codes "trace") = search rules in
    let workers_is : rule_of c.long.result ≡ option_rule (codes "workers") = ap rule_of c.long.ensures ∙ ap (option (codes "workers")) c.new-3.ensures.rule in
    let block_is : rule_of c.long-2.result ≡ option_rule (codes "block") = ap rule_of c.long-2.ensures ∙ ap (option (codes "block")) c.new-4.ensures.rule in
    let made_is : rule_of c.long-3.result ≡ option_rule (codes "made") = ap rule_of c.long-3.ensures ∙ ap (option (codes "made")) c.new-5.ensures.rule in
    let report_is : rule_of c.long-4.result ≡ option_rule (codes "report") = ap rule_of c.long-4.ensures ∙ ap (option (codes "report")) c.new-6.ensures.rule in
    let jobs_is : rule_of c.action.result ≡ jobs_rule = search rules in
    let jobs_local : c.action.result.global ≡ false = search rules in
    let bare : app_of c.disable_help_flag.result ≡ bare_app =
    ap app_of_fields c.disable_help_flag.ensures
    ∙ (ap (λ f. app_of_fields (record f { disable_help_flag = true })) c.no_binary_name.ensures ∙ ap set c.new-8.ensures.app) in
    let args : List Arg = c.new.result ∷ c.new-2.result ∷ c.long.result ∷ c.long-2.result ∷ c.long-3.result ∷ c.long-4.result ∷ c.action.result ∷ [] in
    let added : AddsInTurn AddsArg c.disable_help_flag.result args c.in_ok-command.command =
    subst (λ all. AddsInTurn AddsArg c.disable_help_flag.result all c.in_ok-command.command) c.in_ok-arguments.ensures.items c.in_ok-command.ensures in
    let local : AllByRecursion IsLocal args = (
      c.new.ensures.optional.1,
      (
        c.new-2.ensures.optional.1,
        (
          ap global c.long.ensures ∙ c.new-3.ensures.optional.1,
          (
            ap global c.long-2.ensures ∙ c.new-4.ensures.optional.1,
            (ap global c.long-3.ensures ∙ c.new-5.ensures.optional.1, (ap global c.long-4.ensures ∙ c.new-6.ensures.optional.1, (jobs_local, tt))),
          ),
        ),
      ),
    ) in
    in_turn c.disable_help_flag.result c.in_ok-command.command args added local
    ∙ ap₂ with_rules bare (more_rules model_is (more_rules trace_is (more_rules workers_is (more_rules block_is (more_rules made_is (more_rules report_is (ap (λ r. r ∷ []) jobs_is)))))))

pub returns-clause-found : goal.returns-clause-found
returns-clause-found c pass =
    let words : List (List ℕ) = map (λ w. w.now) c.args.words.now in
    IfOk-weaker c.try_get_matches_from.result _ _
    (λ m h. finds words (found_of m) pass ((h (ap is_simple (command_is c) ∙ app_is_simple)).0 ∙ ap (λ a. matches_of a words) (command_is c))) c.try_get_matches_from.ensures.matches

pub returns-clause-memory : goal.returns-clause-memory
returns-clause-memory c pass =
    let words : List (List ℕ) = map (λ w. w.now) c.args.words.now in
    IfErr-weaker c.try_get_matches_from.result _ _ (λ e h. h (ap (λ a. takes a words) (command_is c) ∙ taken words pass)) c.try_get_matches_from.ensures.passes
