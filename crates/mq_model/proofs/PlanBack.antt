-- Lines that say what a sound network says, behind a head, have no fault and declare this network.
use Rattle.std.proofs.Common.{◌≡◌, ◌∙◌, sym, ap, refl, subst, ℕ, ◌≤◌, List, [], ◌∷◌, ◌++◌, length, true, false, Option, Some, None, Result, Ok, Err, arith}
use Rattle.std.specs.Prelude.{map, ◌&&◌, nat_lt, option_map}
use Rattle.std.specs.List.{list_all, list_any, flat_map}
use Rattle.std.proofs.lemmas.Bool.{and_parts, and_left, leb-true, le-ltb}
use Rattle.std.proofs.lemmas.List.{length-map}
use Rattle.mq_base.specs.Text.{lines_of, words_of}
use Rattle.mq_core.specs.Sound.{are_distinct, is_sound}
use Rattle.mq_core.specs.declared.model.Network.{Network}
use Rattle.mq_core.specs.declared.model.Node.{Node}
use Rattle.mq_model.specs.Form.{Word, read, whole}
use Rattle.mq_model.specs.Head.{is_head, is_skipped, version_in, version_said}
use Rattle.mq_graph.specs.Rank.{left_node}
use Rattle.mq_model.specs.Lines.{line}
use Rattle.mq_model.specs.Model.{begins_bound, cycle_fault, inputs_fault, is_allowed, lines_fault, model_fault, reads_of_text, source_fault, text_fault}
use Rattle.mq_model.specs.NetworkOf.{network_in, network_of, nodes_of, said_of, saids_of, without_mark}
use Rattle.mq_model.specs.Said.{columns_of, gives, is_same_input, is_source, names_of, reads_of}
use Rattle.mq_model.specs.SaidOf.{input_by, names_in, node_by, saids_in}
use Rattle.mq_model.specs.declared.said.SaidInput.{SaidInput}
use Rattle.mq_model.specs.declared.said.Said.{Said}
use Rattle.mq_model.specs.declared.said.Said.TheVariants.{Bound}
use Rattle.mq_model.proofs.InputsBack.{all_given_back, all_outputs_in, distinct_back, no_inputs_fault, reads_said, source_back}
use Rattle.mq_model.proofs.NetworkBack.{has_parts, names_said, network_again}
use Rattle.mq_model.proofs.SoundText.{AreFew, head_no_bound, head_not_skipped, head_says_nothing, saids_more}
use Rattle.mq_model.proofs.TextBack.{AreNodes, AreSaid, head_first, headed_more, is_new, no_line_fault, no_lines_fault, saids_said, says_so}
use Rattle.mq_model.proofs.HeadFacts.{version_kept}
use Rattle.mq_model.proofs.Versions.{saids_of_version}

-- The head says nothing.
abbrev said_if : Result Said (List Word) → Option Said
said_if (Ok said) = Some said
said_if (Err left) = None

says_nothing : (r : Result Said (List Word)) → ((said : Said) → r ≡ Ok said → ⊥) → said_if r ≡ None
says_nothing (Ok said) h = absurd (h said refl)
says_nothing (Err left) h = refl

head_said : (head : List ℕ) → is_head (words_of head) ≡ true → said_of head ≡ None
head_said head is = says_nothing (whole (read line (words_of head))) (λ said e. head_says_nothing (words_of head) said is e)

-- What a sound network says is few, and all but the bound are nodes.
few_said : (net : Network) → is_sound net ≡ true → AreFew (saids_in net)
few_said net sound =
    let parts = has_parts net sound in
    let names : names_of (saids_in net) ≡ names_in net = names_said (names_in net) net.columns net.nodes in
    let columns : columns_of (saids_in net) ≡ net.columns = ap (λ (n : Network). n.columns) (network_again net sound) in
    let size : length (names_in net) ≡ length net.nodes = length-map net.nodes _ in
    let most : length net.nodes ≤ 64 = leb-true _ _ (and_parts _ _ parts.size).1 in
    let most_columns : length net.columns ≤ 16 = leb-true _ _ parts.few_columns in
    record { distinct = rw names parts.named; names = rw names (omega arith); columns = rw columns most_columns }

nodes_said : (names columns : List Word) (nodes : List Node) → AreNodes (map (node_by names columns) nodes)
nodes_said names columns [] = refl
nodes_said names columns (node ∷ nodes) = nodes_said names columns nodes

-- a text that begins with a head is of the version that it says
version_of_head : (version : ℕ) (head : List ℕ) (ls : List (List ℕ)) → is_head (words_of head) ≡ true → version_said (words_of head) ≡ version → version_in (head ∷ ls) ≡ version
version_of_head version head ls is says = rw (head_not_skipped (words_of head) is) says

-- the lines have no fault
lines_back : (net : Network) (head : List ℕ) (ls : List (List ℕ)) → is_sound net ≡ true → list_all is_allowed head ≡ true → is_head (words_of head) ≡ true → version_said (words_of head) ≡ net.version
    → AreSaid ls (saids_in net) → lines_fault [] (head ∷ ls) ≡ None
unfolding lines_fault
lines_back net head [] sound allowed is says said = absurd said
lines_back net head (l ∷ ls) sound allowed is says said =
    let few = few_said net sound in
    let headed : list_all is_skipped (head ∷ []) ≡ false = and_left _ _ (head_not_skipped (words_of head) is) in
    let nothing : saids_of (head ∷ []) ≡ [] = rw (head_said head is) refl in
    let version : version_in (head ∷ []) ≡ net.version = version_of_head net.version head [] is says in
    let once : (list_any (λ k. begins_bound (words_of k)) (head ∷ []) && begins_bound (words_of l)) ≡ false = rw (head_no_bound (words_of head) is) refl in
    let few_here : AreFew (saids_of (head ∷ []) ++ saids_in net) = rw nothing few in
    let bound = no_line_fault (head ∷ []) l (Bound net.bound) headed refl said.0 (is_new (saids_of (head ∷ [])) _ (Bound net.bound) few_here) once in
    let more : saids_of (head ∷ l ∷ []) ≡ Bound net.bound ∷ [] = saids_more (head ∷ []) l ∙ rw (nothing, says_so l (Bound net.bound) said.0) refl in
    let few_more : AreFew (saids_of (head ∷ l ∷ []) ++ map (node_by (names_in net) net.columns) net.nodes) = rw more few in
    let of = saids_of_version (names_in net) net.columns net.version net.nodes (has_parts net sound).kinds in
    let rest = no_lines_fault net.version (head ∷ l ∷ []) ls (map (node_by (names_in net) net.columns) net.nodes) (headed_more (head ∷ []) l headed) (version_kept (head ∷ []) (l ∷ []) headed ∙ version) of said.1 (nodes_said (names_in net) net.columns net.nodes) few_more in
    rw (head_first head allowed is, bound) rest

-- The whole text of the lines.
no_fault_back : (net : Network) (ls : List (List ℕ)) → is_sound net ≡ true → left_node net.nodes ≡ None → lines_fault [] ls ≡ None → saids_of ls ≡ saids_in net → text_fault ls ≡ None
no_fault_back net ls sound left lines said =
    let parts = has_parts net sound in
    let names : List Word = names_in net in
    let size : length names ≡ length net.nodes = length-map net.nodes _ in
    let outputs = all_outputs_in (length net.columns) net.nodes net.nodes parts.nodes in
    let reads : flat_map reads_of (saids_in net) ≡ map (input_by names) (flat_map (λ (node : Node). node.inputs) net.nodes) = reads_said names net.columns net.nodes in
    let given : list_all (λ (i : SaidInput). list_any (gives i) (saids_in net)) (flat_map reads_of (saids_in net)) ≡ true = rw reads (all_given_back net.columns net.nodes _ outputs) in
    let apart : are_distinct is_same_input (flat_map reads_of (saids_in net)) ≡ true = rw reads (distinct_back names net.nodes _ parts.named size outputs parts.once) in
    let inputs : inputs_fault (saids_of ls) [] (reads_of_text ls) ≡ None =
    no_inputs_fault ls (subst (λ saids. list_all (λ (i : SaidInput). list_any (gives i) saids) (flat_map reads_of saids) ≡ true) (sym said) given)
    (subst (λ saids. are_distinct is_same_input (flat_map reads_of saids) ≡ true) (sym said) apart) in
    let some : list_any is_source (saids_of ls) ≡ true = rw said (source_back names net.columns net.nodes parts.source) in
    let source : source_fault (saids_of ls) ≡ None = rw some refl in
    let nodes : nodes_of (saids_of ls) ≡ net.nodes = ap nodes_of said ∙ ap (λ (n : Network). n.nodes) (network_again net sound) in
    let acyclic : cycle_fault ls ≡ None = ap (option_map _) (ap left_node nodes ∙ left) in
    rw (lines, inputs, source) acyclic

-- A text of a head, and of lines that say what a sound network says, declares this network, where none of its nodes is on or behind a cycle.
pub text_again : (net : Network) (text head : List ℕ) (ls : List (List ℕ)) → is_sound net ≡ true → left_node net.nodes ≡ None → length text ≤ 65536 → lines_of (without_mark text) ≡ head ∷ ls
    → list_all is_allowed head ≡ true → is_head (words_of head) ≡ true → version_said (words_of head) ≡ net.version → AreSaid ls (saids_in net) → (model_fault text ≡ None) × (network_in text ≡ net)
text_again net text head ls sound left short lines allowed is version said =
    let says : saids_of (head ∷ ls) ≡ saids_in net = rw (head_said head is) (saids_said ls (saids_in net) said) in
    let here = no_fault_back net (head ∷ ls) sound left (lines_back net head ls sound allowed is version said) says in
    let fault : text_fault (lines_of (without_mark text)) ≡ None = rw lines here in
    let long : nat_lt 65536 (length text) ≡ false = le-ltb 65536 (length text) short in (
      rw long fault,
      ap (λ all. network_of (version_in all) (saids_of all)) lines ∙ ap (λ v. network_of v (saids_of (head ∷ ls))) (version_of_head net.version head ls is version)
          ∙ ap (network_of net.version) says ∙ network_again net sound,
    )
