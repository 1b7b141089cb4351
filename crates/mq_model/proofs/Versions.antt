-- Which lines only version 2 has: by their first word, by what they say, and by the kind of their node.
use Rattle.std.proofs.Common.{◌≡◌, refl, ℕ, List, [], ◌∷◌, Bool, true, false, Ok, arith, inl, inr}
use Rattle.std.specs.Prelude.{◌&&◌, ◌||◌, map, codes, nat_le, nat_lt}
use Rattle.std.specs.List.{list_all, flat_map}
use Rattle.std.specs.Str.{bytes_eq}
use Rattle.std.proofs.lemmas.Bool.{cases_Bool, both_ways, and_parts, and_from, and_cases, or_parts, or_cases, or_left, or_right, leb-true, le-leb, ltb-true, ltb-false, false_from_ne_true}
use Rattle.mq_core.specs.Sound.{version_of}
use Rattle.mq_core.specs.declared.model.Kind.{Kind}
use Rattle.mq_core.specs.declared.model.Kind.TheVariants as kind
use Rattle.mq_core.specs.declared.model.Node.{Node}
use Rattle.mq_model.specs.Form.{Word, read, whole}
use Rattle.mq_model.specs.Lines.{first_line, fork_kind, join_line, line, node_line, trunk_kind}
use Rattle.mq_model.specs.Model.{begins_later}
use Rattle.mq_model.specs.NetworkOf.{kind_in, nodes_in}
use Rattle.mq_model.specs.SaidOf.{kind_by, node_by}
use Rattle.mq_model.specs.declared.said.SaidKind.{SaidKind}
use Rattle.mq_model.specs.declared.said.SaidKind.TheVariants.{Source, Server, Delay, Loss, Tandem, ForkJoin, Split, Fork, Join, Trunk}
use Rattle.mq_model.specs.declared.said.Said.{Said}
use Rattle.mq_model.specs.declared.said.Said.TheVariants as said
use Rattle.mq_model.proofs.Lists.{AreAll}
use Rattle.mq_model.proofs.ReadFacts.{line_first, line_fork, line_join, line_nothing, line_trunk}
use Rattle.mq_model.proofs.SoundLines.{IsSaidOf, is_first, is_first_kind, keeps_first, keeps_fork, keeps_join, keeps_trunk, keeps_whole}

-- By words.
says_first : (ws : List Word) (said : Said) → begins_later ws ≡ false → whole (read line ws) ≡ Ok said → is_first said ≡ true
says_first [] said h e = let none = rw (line_nothing [] refl) at e in absurd (cc)
says_first (w ∷ ws) said h e =
    let no = or_parts (bytes_eq w (codes "fork")) (bytes_eq w (codes "join") || bytes_eq w (codes "trunk")) h in
    let nor = or_parts (bytes_eq w (codes "join")) (bytes_eq w (codes "trunk")) no.1 in
    (keeps_whole (IsSaidOf true) first_line (w ∷ ws) said keeps_first (rw (line_first (w ∷ ws) ws w refl no.0 nor.0 nor.1) at e)).1

says_later : (ws : List Word) (said : Said) → begins_later ws ≡ true → whole (read line ws) ≡ Ok said → is_first said ≡ false
says_later [] said h e = absurd (cc)
says_later (w ∷ ws) said h e =
    elim (cases_Bool (bytes_eq w (codes "fork"))) [
      | inl fork ↦ (keeps_whole (IsSaidOf false) (node_line fork_kind) ws said keeps_fork (rw (line_fork (w ∷ ws) ws w refl fork) at e)).1
      | inr other ↦
          let later : (bytes_eq w (codes "join") || bytes_eq w (codes "trunk")) ≡ true = rw other at h in
          elim (cases_Bool (bytes_eq w (codes "join"))) [
            | inl join ↦ (keeps_whole (IsSaidOf false) join_line ws said keeps_join (rw (line_join (w ∷ ws) ws w refl other join) at e)).1
            | inr neither ↦
                let trunk : bytes_eq w (codes "trunk") ≡ true = rw neither at later in
                (keeps_whole (IsSaidOf false) (node_line trunk_kind) ws said keeps_trunk (rw (line_trunk (w ∷ ws) ws w refl other neither trunk) at e)).1
          ]
    ]

-- a line that texts of this version have
abbrev pub is_of : ℕ → Said → Bool
is_of version said = is_first said || nat_le 2 version

pub of_words : (version : ℕ) (ws : List Word) (said : Said) → whole (read line ws) ≡ Ok said → (nat_lt version 2 && begins_later ws) ≡ false → is_of version said ≡ true
of_words version ws said e free =
    elim (and_cases (nat_lt version 2) (begins_later ws) free) [
      | inl second ↦ or_right _ _ (le-leb 2 version (ltb-false version 2 second))
      | inr none ↦ or_left _ _ (says_first ws said none e)
    ]

pub words_of_version : (version : ℕ) (ws : List Word) (said : Said) → whole (read line ws) ≡ Ok said → is_of version said ≡ true → (nat_lt version 2 && begins_later ws) ≡ false
words_of_version version ws said e of =
    elim (cases_Bool (nat_lt version 2)) [
      | inl one ↦
          elim (or_cases (is_first said) (nat_le 2 version) of) [
            | inl first ↦
                let none : begins_later ws ≡ false = false_from_ne_true _ (λ later. both_ways _ (says_later ws said later e) first) in
                rw (one, none) refl
            | inr two ↦ let low = ltb-true _ _ one in let high = leb-true _ _ two in absurd (omega arith)
          ]
      | inr two ↦ rw two refl
    ]

-- By kinds.
kind_of_version : (columns : List Word) (version : ℕ) (kind : SaidKind) → nat_le 1 version ≡ true → (is_first_kind kind || nat_le 2 version) ≡ true → nat_le (version_of (kind_in columns kind)) version ≡ true
kind_of_version columns version Source some of = some
kind_of_version columns version (Server d) some of = some
kind_of_version columns version (Delay d) some of = some
kind_of_version columns version (Loss places d) some of = some
kind_of_version columns version (Tandem stages) some of = some
kind_of_version columns version (ForkJoin branches) some of = some
kind_of_version columns version (Split route) some of = some
kind_of_version columns version (Fork outputs) some of = of
kind_of_version columns version Join some of = of
kind_of_version columns version (Trunk servers d) some of = of

pub nodes_of_version : (names columns : List Word) (version : ℕ) (saids : List Said) → nat_le 1 version ≡ true → AreAll (λ said. is_of version said ≡ true) saids
    → list_all (λ (node : Node). nat_le (version_of node.kind) version) (flat_map (nodes_in names columns) saids) ≡ true
nodes_of_version names columns version [] some all = refl
nodes_of_version names columns version (said.Bound n ∷ saids) some all = nodes_of_version names columns version saids some all.1
nodes_of_version names columns version (said.Node name kind reads ∷ saids) some all = and_from _ _ (kind_of_version columns version kind some all.0) (nodes_of_version names columns version saids some all.1)

said_of_version : (columns : List Word) (version : ℕ) (k : Kind) → nat_le (version_of k) version ≡ true → (is_first_kind (kind_by columns k) || nat_le 2 version) ≡ true
said_of_version columns version kind.Source h = refl
said_of_version columns version (kind.Server d) h = refl
said_of_version columns version (kind.Delay d) h = refl
said_of_version columns version (kind.Loss places d) h = refl
said_of_version columns version (kind.Tandem stages) h = refl
said_of_version columns version (kind.ForkJoin branches) h = refl
said_of_version columns version (kind.Split r) h = refl
said_of_version columns version (kind.Fork outputs) h = h
said_of_version columns version kind.Join h = h
said_of_version columns version (kind.Trunk servers d) h = h

pub saids_of_version : (names columns : List Word) (version : ℕ) (nodes : List Node) → list_all (λ (node : Node). nat_le (version_of node.kind) version) nodes ≡ true
    → AreAll (λ said. is_of version said ≡ true) (map (node_by names columns) nodes)
saids_of_version names columns version [] h = tt
saids_of_version names columns version (node ∷ nodes) h = let both = and_parts _ _ h in (said_of_version columns version node.kind both.0, saids_of_version names columns version nodes both.1)
