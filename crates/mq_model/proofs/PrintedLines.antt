-- The words of a line say it again.
use Rattle.std.proofs.Common.{◌≡◌, ◌∙◌, sym, ap, refl, subst, ℕ, ◌-◌, ◌<◌, ◌≤◌, ◌^◌, List, [], ◌∷◌, ◌++◌, length, true, false, Ok, arith}
use Rattle.std.specs.Prelude.{codes, decimal, ◌==◌, nat_lt, nat_le, map}
use Rattle.std.specs.List.{list_all}
use Rattle.std.proofs.lemmas.Bool.{and_parts, and_from, and_right, leb-true, eqb-true}
use Rattle.std.proofs.lemmas.Fmt.{decimal_digit}
use Rattle.mq_base.proofs.lemmas.Numbers.{number_again}
use Rattle.mq_core.specs.Names.{is_name}
use Rattle.mq_core.specs.Ranges.{is_within, rises_from}
use Rattle.mq_model.specs.Form.{Form, Word, one, read, whole}
use Rattle.mq_model.specs.Lines.{a_route, fork_kind, trunk_kind, join_line, bound_line, counted_route, cut_route, greatest_demand, inputs, is_above, is_from_to, is_key, is_up_to, line, modulo_route, node_line, rising, delay_kind, loss_kind, tandem_kind, forkjoin_kind, server_kind, source_line, split_kind, thresholds, value_of, way_of}
use Rattle.mq_model.specs.Printed.{demand_word, input_word, inputs_words, route_words, said_words}
use Rattle.mq_model.specs.Said.{reads_of}
use Rattle.mq_model.specs.declared.said.SaidDemand.{SaidDemand}
use Rattle.mq_model.specs.declared.said.SaidInput.{SaidInput}
use Rattle.mq_model.specs.declared.said.SaidKind.{SaidKind}
use Rattle.mq_model.specs.declared.said.SaidKind.TheVariants.{Source, Server, Delay, Loss, Tandem, ForkJoin, Split, Fork, Join, Trunk}
use Rattle.mq_model.specs.declared.said.SaidRoute.{SaidRoute}
use Rattle.mq_model.specs.declared.said.SaidRoute.TheVariants.{Modulo, Turn, Cut}
use Rattle.mq_model.specs.declared.said.Said.{Said}
use Rattle.mq_model.specs.declared.said.Said.TheVariants.{Bound, Node}
use Rattle.mq_model.proofs.FormFacts.{read_then}
use Rattle.mq_model.specs.Reading.{with_front}
use Rattle.mq_model.proofs.ReadFacts.{kind_delay, kind_forkjoin, kind_loss, kind_server, kind_split, kind_tandem, fork_is, line_bound, line_first, line_fork, line_join, line_kind, line_source, line_trunk, read_one_yes, rising_no, rising_yes, route_counted, route_cut, thresholds_first, way_mod, way_turn}
use Rattle.mq_model.proofs.PrintedBranches.{forkjoin_again}
use Rattle.mq_model.proofs.PrintedStages.{tandem_again}
use Rattle.mq_model.proofs.PrintedParts.{a_demand_again, inputs_again, joined_again, name_again, within_again, AreInputs}
use Rattle.mq_model.proofs.SoundLines.{AreSoundThresholds, IsSoundDemand, IsSoundRoute, IsSoundSaid}

-- Thresholds, before the word `from`.
rising_again : (n last : ℕ) (more : List ℕ) (rest : List Word) → length more ≤ n → rises_from last more ≡ true → list_all (λ threshold. nat_le threshold (2 ^ 36)) more ≡ true
    → read (rising n last) (map decimal more ++ codes "from" ∷ rest) ≡ Ok (more, codes "from" ∷ rest)
rising_again n last [] rest few rise small = rising_no n last (codes "from" ∷ rest) rest (codes "from") refl refl
rising_again n last (t ∷ more) rest few rise small =
    let some : 0 < n = omega arith in
    let fits : length more ≤ n - 1 = omega arith in
    let rises = and_parts _ _ rise in
    let all = and_parts _ _ small in
    let again = number_again t (2 ^ 36) (leb-true _ _ all.0) (omega arith) in
    let above : is_above last (decimal t) ≡ true = and_from _ _ again.0 (subst (λ v. nat_lt last v ≡ true) (sym again.1) rises.0) in
    rising_yes n last (decimal t ∷ (map decimal more ++ codes "from" ∷ rest)) (map decimal more ++ codes "from" ∷ rest) (decimal t) some refl above
    ∙ ap (λ v. with_front (v ∷ []) (read (rising (n - 1) v) (map decimal more ++ codes "from" ∷ rest))) again.1
    ∙ ap (with_front (t ∷ [])) (rising_again (n - 1) t more rest fits rises.1 all.1)

thresholds_again : (cuts : List ℕ) (rest : List Word) → AreSoundThresholds cuts → read thresholds (map decimal cuts ++ codes "from" ∷ rest) ≡ Ok (cuts, codes "from" ∷ rest)
thresholds_again [] rest sound = let none = sound.0 in absurd (cc)
thresholds_again (t ∷ more) rest sound =
    let most : length (t ∷ more) ≤ 7 = leb-true _ _ (and_parts _ _ sound.0).1 in
    let fits : length more ≤ 6 = omega arith in
    let all = and_parts _ _ sound.2 in
    let again = number_again t (2 ^ 36) (leb-true _ _ all.0) (omega arith) in
    let behind : List Word = map decimal more ++ codes "from" ∷ rest in
    let first : read (one (is_up_to greatest_demand) value_of) (decimal t ∷ behind) ≡ Ok (t, behind) =
    read_one_yes (is_up_to greatest_demand) value_of (decimal t ∷ behind) behind (decimal t) refl again.0 ∙ ap (λ v. Ok (v, behind)) again.1 in
    thresholds_first (decimal t ∷ behind) behind t first ∙ ap (with_front (t ∷ [])) (rising_again 6 t more rest fits sound.1 all.1)

-- Routes.
no_cut : (outputs : ℕ) → is_within 2 8 outputs ≡ true → is_key (codes "cut") (decimal outputs) ≡ false
no_cut outputs within =
    let most : outputs ≤ 8 = leb-true _ _ (and_parts _ _ within).1 in
    let digit = decimal_digit outputs (omega arith) in
    rw digit (and_right _ _ refl)

counted_again : (route : SaidRoute) (outputs : ℕ) (ws rest : List Word) → is_within 2 8 outputs ≡ true → read (way_of outputs) ws ≡ Ok (route, rest) → read a_route (decimal outputs ∷ ws) ≡ Ok (route, rest)
unfolding counted_route
counted_again route outputs ws rest within way =
    route_counted (decimal outputs ∷ ws) ws (decimal outputs) refl (no_cut outputs within)
    ∙ rw (read_then (one (is_from_to 2 8) value_of) way_of (decimal outputs ∷ ws), within_again 2 8 outputs ws (omega arith) within) way

modulo_again : (outputs : ℕ) (column : Word) (rest : List Word) → is_name column ≡ true → read (modulo_route outputs) (column ∷ rest) ≡ Ok (Modulo outputs column, rest)
unfolding modulo_route read
modulo_again outputs column rest named = rw (read_then, name_again column rest named) refl

cut_again : (column : Word) (cuts : List ℕ) (rest : List Word) → is_name column ≡ true → AreSoundThresholds cuts
    → read cut_route (column ∷ (map decimal cuts ++ codes "from" ∷ rest)) ≡ Ok (Cut column cuts, codes "from" ∷ rest)
unfolding cut_route read
cut_again column cuts rest named sound = rw (read_then, name_again column (map decimal cuts ++ codes "from" ∷ rest) named, read_then, thresholds_again cuts rest sound) refl

route_again : (route : SaidRoute) (rest : List Word) → IsSoundRoute route → read a_route (route_words route ++ codes "from" ∷ rest) ≡ Ok (route, codes "from" ∷ rest)
route_again (Modulo outputs column) rest sound =
    let ws : List Word = column ∷ codes "from" ∷ rest in
    counted_again (Modulo outputs column) outputs (codes "mod" ∷ ws) (codes "from" ∷ rest) sound.0
    (way_mod outputs (codes "mod" ∷ ws) ws (codes "mod") refl refl ∙ modulo_again outputs column (codes "from" ∷ rest) sound.1)
route_again (Turn outputs) rest sound =
    counted_again (Turn outputs) outputs (codes "turn" ∷ codes "from" ∷ rest) (codes "from" ∷ rest) sound (way_turn outputs (codes "turn" ∷ codes "from" ∷ rest) (codes "from" ∷ rest) (codes "turn") refl refl refl)
route_again (Cut column cuts) rest sound =
    let ws : List Word = column ∷ (map decimal cuts ++ codes "from" ∷ rest) in
    route_cut (codes "cut" ∷ ws) ws (codes "cut") refl refl ∙ cut_again column cuts rest sound.0 sound.1

-- Lines.
node_again : (name : Word) (form : Form SaidKind) (kind : SaidKind) (reads : List SaidInput) (ws : List Word) → is_name name ≡ true → read form ws ≡ Ok (kind, inputs_words reads)
    → read inputs (inputs_words reads) ≡ Ok (reads, []) → read (node_line form) (name ∷ ws) ≡ Ok (Node name kind reads, [])
unfolding node_line read
node_again name form kind reads ws named is all = rw (read_then, name_again name ws named, read_then, is, read_then, all) refl

server_again : (d : SaidDemand) (more : List Word) → IsSoundDemand d → read server_kind (demand_word d ∷ more) ≡ Ok (Server d, more)
unfolding read
server_again d more sound = rw (read_then, a_demand_again d more sound) refl

delay_again : (d : SaidDemand) (more : List Word) → IsSoundDemand d → read delay_kind (demand_word d ∷ more) ≡ Ok (Delay d, more)
unfolding read
delay_again d more sound = rw (read_then, a_demand_again d more sound) refl

loss_again : (places : ℕ) (d : SaidDemand) (more : List Word) → is_within 1 1048576 places ≡ true → IsSoundDemand d → read loss_kind (decimal places ∷ demand_word d ∷ more) ≡ Ok (Loss places d, more)
unfolding loss_kind read
loss_again places d more within sound = rw (read_then, within_again 1 1048576 places (demand_word d ∷ more) (omega arith) within, read_then, a_demand_again d more sound) refl

split_again : (route : SaidRoute) (rest : List Word) → IsSoundRoute route → read split_kind (route_words route ++ codes "from" ∷ rest) ≡ Ok (Split route, codes "from" ∷ rest)
unfolding read
split_again route rest sound = rw (read_then a_route _ (route_words route ++ codes "from" ∷ rest), route_again route rest sound) refl

fork_again : (outputs : ℕ) (rest : List Word) → is_within 2 4 outputs ≡ true → read fork_kind (decimal outputs ∷ rest) ≡ Ok (Fork outputs, rest)
fork_again outputs rest within = fork_is (decimal outputs ∷ rest) rest outputs (within_again 2 4 outputs rest (omega arith) within)

trunk_again : (servers : ℕ) (d : SaidDemand) (more : List Word) → is_within 1 255 servers ≡ true → IsSoundDemand d → read trunk_kind (decimal servers ∷ demand_word d ∷ more) ≡ Ok (Trunk servers d, more)
unfolding trunk_kind read
trunk_again servers d more within sound = rw (read_then, within_again 1 255 servers (demand_word d ∷ more) (omega arith) within, read_then, a_demand_again d more sound) refl

join_again : (name : Word) (reads : List SaidInput) → is_name name ≡ true → is_within 2 8 (length reads) ≡ true → AreInputs reads → read join_line (name ∷ inputs_words reads) ≡ Ok (Node name Join reads, [])
unfolding join_line read
join_again name reads named count are = rw (read_then, name_again name (inputs_words reads) named, read_then, joined_again reads count are) refl

bound_again : (n : ℕ) → nat_le n (2 ^ 60) ≡ true → read bound_line (decimal n ∷ []) ≡ Ok (Bound n, [])
bound_again n small =
    let again = number_again n (2 ^ 60) (leb-true _ _ small) (omega arith) in
    read_one_yes (is_up_to (2 ^ 60)) (λ w. Bound (value_of w)) (decimal n ∷ []) [] (decimal n) refl again.0 ∙ ap (λ v. Ok (Bound v, [])) again.1

source_again : (name : Word) → is_name name ≡ true → read source_line (name ∷ []) ≡ Ok (Node name Source [], [])
unfolding read
source_again name named = rw (read_then, name_again name [] named) refl

no_reads : (reads : List SaidInput) → (length reads == 0) ≡ true → reads ≡ []
no_reads [] h = refl
no_reads (input ∷ reads) h = let none = eqb-true _ _ h in absurd (omega arith)

-- the words of a line in its ranges say it
pub line_again : (said : Said) → IsSoundSaid said → AreInputs (reads_of said) → whole (read line (said_words said)) ≡ Ok said
line_again (Bound n) sound are = ap whole (line_first _ _ (codes "bound") refl refl refl refl ∙ line_bound (codes "bound" ∷ decimal n ∷ []) (decimal n ∷ []) (codes "bound") refl refl ∙ bound_again n sound)
line_again (Node name Source reads) sound are =
    ap whole (line_first _ _ (codes "source") refl refl refl refl ∙ line_source (codes "source" ∷ name ∷ []) (name ∷ []) (codes "source") refl refl refl ∙ source_again name sound.0) ∙ ap (λ none. Ok (Node name Source none)) (sym (no_reads reads sound.2))
line_again (Node name (Server d) reads) sound are =
    ap whole (line_first _ _ (codes "server") refl refl refl refl ∙ line_kind _ _ (codes "server") refl refl refl ∙ kind_server _ _ (codes "server") refl refl
    ∙ node_again name server_kind (Server d) reads _ sound.0 (server_again d (inputs_words reads) sound.1) (inputs_again reads sound.2 are))
line_again (Node name (Delay d) reads) sound are =
    ap whole (line_first _ _ (codes "delay") refl refl refl refl ∙ line_kind _ _ (codes "delay") refl refl refl ∙ kind_delay _ _ (codes "delay") refl refl refl
    ∙ node_again name delay_kind (Delay d) reads _ sound.0 (delay_again d (inputs_words reads) sound.1) (inputs_again reads sound.2 are))
line_again (Node name (Loss places d) reads) sound are =
    ap whole (line_first _ _ (codes "loss") refl refl refl refl ∙ line_kind _ _ (codes "loss") refl refl refl ∙ kind_loss _ _ (codes "loss") refl refl refl refl
    ∙ node_again name loss_kind (Loss places d) reads _ sound.0 (loss_again places d (inputs_words reads) sound.1.0 sound.1.1) (inputs_again reads sound.2 are))
line_again (Node name (Tandem stages) reads) sound are =
    ap whole (line_first _ _ (codes "tandem") refl refl refl refl ∙ line_kind _ _ (codes "tandem") refl refl refl ∙ kind_tandem _ _ (codes "tandem") refl refl refl refl refl
    ∙ node_again name tandem_kind (Tandem stages) reads _ sound.0 (tandem_again stages (map input_word reads) sound.1) (inputs_again reads sound.2 are))
line_again (Node name (ForkJoin branches) reads) sound are =
    ap whole (line_first _ _ (codes "forkjoin") refl refl refl refl ∙ line_kind _ _ (codes "forkjoin") refl refl refl ∙ kind_forkjoin _ _ (codes "forkjoin") refl refl refl refl refl refl
    ∙ node_again name forkjoin_kind (ForkJoin branches) reads _ sound.0 (forkjoin_again branches (map input_word reads) sound.1) (inputs_again reads sound.2 are))
line_again (Node name (Split route) reads) sound are =
    ap whole (line_first _ _ (codes "split") refl refl refl refl ∙ line_kind _ _ (codes "split") refl refl refl ∙ kind_split _ _ (codes "split") refl refl refl refl refl refl refl
    ∙ node_again name split_kind (Split route) reads _ sound.0 (split_again route (map input_word reads) sound.1) (inputs_again reads sound.2 are))
line_again (Node name (Fork outputs) reads) sound are =
    ap whole (line_fork _ _ (codes "fork") refl refl ∙ node_again name fork_kind (Fork outputs) reads _ sound.0 (fork_again outputs (inputs_words reads) sound.1) (inputs_again reads sound.2 are))
line_again (Node name Join reads) sound are =
    ap whole (line_join _ _ (codes "join") refl refl refl ∙ join_again name reads sound.0 sound.2 are)
line_again (Node name (Trunk servers d) reads) sound are =
    ap whole (line_trunk _ _ (codes "trunk") refl refl refl refl
    ∙ node_again name trunk_kind (Trunk servers d) reads _ sound.0 (trunk_again servers d (inputs_words reads) sound.1.0 sound.1.1) (inputs_again reads sound.2 are))
