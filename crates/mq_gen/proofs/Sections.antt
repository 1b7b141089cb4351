-- What holds of the sections that a generator draws, however many are drawn.
use Rattle.std.proofs.Common.{◌≡◌, ◌∙◌, refl, sym, subst, ap, ℕ, zero, suc, ◌+◌, ◌-◌, ◌<◌, ◌≤◌, List, [], ◌∷◌, ◌++◌, length, Bool, true, false, cond, Some, arith, inl, inr}
use Rattle.std.specs.Prelude.{◌%◌, ◌==◌, ◌⊎◌, map, nat_le, nat_lt, not, slice_get}
use Rattle.std.specs.Fmt.{digits}
use Rattle.std.specs.List.{flat_map, list_all}
use Rattle.std.proofs.lemmas.Bool.{and_from, eq-eqb, leb-true, lt-ltb, not_from_false}
use Rattle.std.proofs.lemmas.Grind.{flat_map-append}
use Rattle.std.proofs.lemmas.List.{append-nil, length-append, length-map, map-append}
use Rattle.std.proofs.lemmas.List.Folds.{list_all-append}
use Rattle.mq_base.proofs.lemmas.Tests.{list_all_wider}
use Rattle.mq_base.proofs.lemmas.Lists.{get-last}
use Rattle.mq_core.proofs.lemmas.Plans.{output_within}
use Rattle.mq_core.specs.Names.{is_name}
use Rattle.mq_core.specs.Sound.{are_distinct, columns_of_kind, is_output, is_sound_count, is_sound_node, mentions_from, outputs_in, same_input, version_of}
use Rattle.mq_core.specs.Ranges.{is_within}
use Rattle.mq_core.specs.Wiring.{is_source_kind}
use Rattle.mq_core.specs.declared.model.Input.{Input}
use Rattle.mq_core.specs.declared.model.Kind.{Kind}
use Rattle.mq_core.specs.declared.model.Kind.TheVariants.{Source, Server, Delay, Loss, Tandem, ForkJoin, Split, Fork, Join, Trunk}
use Rattle.mq_core.specs.declared.model.Node.{Node}
use Rattle.rand_pcg.specs.Lcg.{Lcg}
use Rattle.rand_pcg.specs.Pcg.{pcg32}
use Rattle.mq_model.specs.Said.{columns_after}
use Rattle.mq_gen.specs.Made.{Sections, draw, kind_by, mentions_of, next_section, no_sections, outputs_from, places_by, section_name, sections_after, sections_from, source_node}
use Rattle.mq_gen.proofs.Forward.{all_read_below, forward_from, forward_on, inputs_below}
use Rattle.mq_gen.proofs.Growing.{distinct_on, mentions_on, nodes_stay, output_stays}
use Rattle.mq_gen.proofs.Mentions.{Mentioned, Neither, SectionSuits, Suits, columns_in, has_places, places_drawn, section_suits}
use Rattle.mq_gen.proofs.SectionNames.{section_named, section_names}

abbrev pub name_of : Node → List ℕ
name_of node = node.name

abbrev pub inputs_in : Node → List Input
inputs_in node = node.inputs

abbrev pub columns_at : Node → List ℕ
columns_at node = columns_of_kind node.kind

abbrev pub is_station : Node → Bool
is_station node = not (is_source_kind node.kind)

-- the first version of the models' language has its kind
abbrev pub is_first : Node → Bool
is_first node = nat_le (version_of node.kind) 1

-- an input reads an output of one of these nodes
abbrev is_given : List Node → Input → Bool
is_given nodes i = is_output (slice_get nodes i.node) i.out

-- so many sections behind the two sources: sound nodes, each of which reads only nodes before it, and no output twice
pub record AreMade (count : ℕ) (s : Sections) : Type 0 where
  pub mentioned : Mentioned
  pub columns : s.columns ≡ columns_in mentioned
  pub later : List Node
  pub nodes : s.nodes ≡ source_node 0 ∷ source_node 1 ∷ later
  pub names : map name_of later ≡ section_names count
  pub stations : list_all is_station later ≡ true
  pub first : list_all is_first later ≡ true
  pub sound : list_all (is_sound_node (length s.columns) s.nodes) s.nodes ≡ true
  pub forward : forward_from 0 s.nodes ≡ true
  pub once : are_distinct same_input (flat_map inputs_in s.nodes ++ s.ends) ≡ true
  pub some : is_within 1 8 (length s.ends) ≡ true
  pub given : list_all (is_given s.nodes) s.ends ≡ true
  pub mentions : mentions_from 0 (length s.columns) (flat_map columns_at s.nodes) ≡ true

pub none_made : (generator : Lcg) → AreMade 0 (no_sections generator)
unfolding digits
none_made generator = record {
  mentioned = Neither;
  columns = refl;
  later = [];
  nodes = refl;
  names = refl;
  stations = refl;
  first = refl;
  sound = refl;
  forward = refl;
  once = refl;
  some = refl;
  given = refl;
  mentions = refl;
}

names_count : (count : ℕ) → length (section_names count) ≡ count
names_count zero = refl
names_count (suc count) = let e = names_count count in length-append (section_names count) (section_name count ∷ []) ∙ omega arith

pub nodes_count : (count : ℕ) (s : Sections) → AreMade count s → length s.nodes ≡ count + 2
nodes_count count s made =
    let later : length made.later ≡ count = sym (length-map made.later name_of) ∙ ap length made.names ∙ names_count count in
    ap length made.nodes ∙ omega arith

-- a station of the first version reads at 1 to 8 ports
count_sound : (kind : Kind) (ports : ℕ) → is_source_kind kind ≡ false → nat_le (version_of kind) 1 ≡ true → is_within 1 8 ports ≡ true → is_sound_count kind ports ≡ true
count_sound Source ports h first k = absurd (cc)
count_sound (Server d) ports h first k = k
count_sound (Delay d) ports h first k = k
count_sound (Loss places d) ports h first k = k
count_sound (Tandem stages) ports h first k = k
count_sound (ForkJoin branches) ports h first k = k
count_sound (Split route) ports h first k = k
count_sound (Fork outputs) ports h first k = absurd (cc)
count_sound Join ports h first k = absurd (cc)
count_sound (Trunk servers d) ports h first k = absurd (cc)

-- the outputs of a node are distinct, and outputs that it has
record AreOutputs (n : ℕ) (kind : Kind) (ends : List Input) : Type 0 where
  distinct : are_distinct same_input ends ≡ true
  at : list_all (λ (i : Input). i.node == n) ends ≡ true
  some : is_within 1 8 (length ends) ≡ true
  given : (nodes : List Node) (node : Node) → slice_get nodes n ≡ Some node → node.kind ≡ kind → list_all (is_given nodes) ends ≡ true

given_at : (nodes : List Node) (node : Node) (n out : ℕ) → slice_get nodes n ≡ Some node → out < outputs_in node.kind → is_output (slice_get nodes n) out ≡ true
given_at nodes node n out is low = subst (λ o. is_output o out ≡ true) (sym is) (lt-ltb out (outputs_in node.kind) low)

are_outputs : (n : ℕ) (kind : Kind) → (outputs_in kind ≡ 1) ⊎ (outputs_in kind ≡ 2) → AreOutputs n kind (outputs_from n kind)
are_outputs n kind (inl one) =
    let ends : outputs_from n kind ≡ record { node = n; out = 0 } ∷ [] = ap (λ o. cond (o == 2) (record { node = n; out = 0 } ∷ record { node = n; out = 1 } ∷ []) (record { node = n; out = 0 } ∷ [])) one in
    let same : (n == n) ≡ true = eq-eqb n n refl in
    subst (AreOutputs n kind) (sym ends) (record {
      distinct = refl;
      at = and_from _ _ same refl;
      some = refl;
      given = λ nodes node is at. and_from _ _ (given_at nodes node n 0 is (let e : outputs_in node.kind ≡ 1 = ap outputs_in at ∙ one in omega arith)) refl;
    })
are_outputs n kind (inr two) =
    let ends : outputs_from n kind ≡ record { node = n; out = 0 } ∷ record { node = n; out = 1 } ∷ [] = ap (λ o. cond (o == 2) (record { node = n; out = 0 } ∷ record { node = n; out = 1 } ∷ []) (record { node = n; out = 0 } ∷ [])) two in
    let same : (n == n) ≡ true = eq-eqb n n refl in
    subst (AreOutputs n kind) (sym ends) (record {
      distinct = rw same refl;
      at = and_from _ _ same (and_from _ _ same refl);
      some = refl;
      given = λ nodes node is at.
          let e : outputs_in node.kind ≡ 2 = ap outputs_in at ∙ two in
          and_from _ _ (given_at nodes node n 0 is (omega arith)) (and_from _ _ (given_at nodes node n 1 is (omega arith)) refl);
    })

-- these sections and one more, of this kind, over these columns
abbrev added : Sections → Kind → Node
added s kind = record { name = section_name (length s.nodes - 2); kind = kind; inputs = s.ends }

abbrev one_more : Sections → List (List ℕ) → Kind → Lcg → Sections
one_more s columns kind generator =
    record {
      nodes = s.nodes ++ added s kind ∷ [];
      columns = columns;
      ends = outputs_from (length s.nodes) kind;
      generator = generator;
    }

added_named : (count : ℕ) (s : Sections) (kind : Kind) → AreMade count s → (added s kind).name ≡ section_name count
added_named count s kind made = let e = nodes_count count s made in ap section_name (omega arith)

names_more : (count : ℕ) (s : Sections) (kind : Kind) (made : AreMade count s) → map name_of (made.later ++ added s kind ∷ []) ≡ section_names (suc count)
names_more count s kind made =
    map-append name_of made.later (added s kind ∷ []) ∙ ap (λ names. names ++ (added s kind).name ∷ []) made.names
    ∙ ap (λ name. section_names count ++ name ∷ []) (added_named count s kind made)

added_sound : (count : ℕ) → count < 12 → (s : Sections) (columns : List (List ℕ)) (kind : Kind) → AreMade count s → Suits s.columns columns kind
    → is_sound_node (length columns) (s.nodes ++ added s kind ∷ []) (added s kind) ≡ true
added_sound count low s columns kind made suits =
    let outputs = list_all_wider (is_given s.nodes) (is_given (s.nodes ++ added s kind ∷ [])) s.ends (λ i. output_stays s.nodes (added s kind ∷ []) i.node i.out) made.given in
    let named : is_name (added s kind).name ≡ true = ap is_name (added_named count s kind made) ∙ section_named count low in
    and_from _ _ (and_from _ _ (and_from _ _ suits.kind (count_sound kind (length s.ends) suits.station suits.first made.some)) outputs) named

sound_more : (count : ℕ) → count < 12 → (s : Sections) (columns : List (List ℕ)) (kind : Kind) → AreMade count s → Suits s.columns columns kind
    → list_all (is_sound_node (length columns) (s.nodes ++ added s kind ∷ [])) (s.nodes ++ added s kind ∷ []) ≡ true
sound_more count low s columns kind made suits =
    let grows : length s.columns ≤ length columns = leb-true _ _ suits.grows in
    list_all-append (is_sound_node (length columns) (s.nodes ++ added s kind ∷ [])) s.nodes (added s kind ∷ [])
    ∙ and_from _ _ (nodes_stay (length s.columns) (length columns) grows s.nodes (added s kind ∷ []) s.nodes made.sound) (and_from _ _ (added_sound count low s columns kind made suits) refl)

-- what the next section reads stands before it
ends_below : (count : ℕ) (s : Sections) → AreMade count s → list_all (λ (i : Input). nat_lt i.node (length s.nodes)) s.ends ≡ true
ends_below count s made =
    list_all_wider (is_given s.nodes) (λ (i : Input). nat_lt i.node (length s.nodes)) s.ends (λ i h. lt-ltb i.node (length s.nodes) (output_within s.nodes i.node i.out h)) made.given

once_more : (count : ℕ) (s : Sections) (kind : Kind) (ends : List Input) → AreMade count s → AreOutputs (length s.nodes) kind ends
    → are_distinct same_input (flat_map inputs_in (s.nodes ++ added s kind ∷ []) ++ ends) ≡ true
once_more count s kind ends made outputs =
    let is : flat_map inputs_in (s.nodes ++ added s kind ∷ []) ≡ flat_map inputs_in s.nodes ++ s.ends =
    flat_map-append inputs_in s.nodes (added s kind ∷ []) ∙ ap (λ more. flat_map inputs_in s.nodes ++ more) (append-nil s.ends)
    in
    let low : list_all (λ (i : Input). nat_lt i.node (length s.nodes)) (flat_map inputs_in s.nodes ++ s.ends) ≡ true =
    list_all-append (λ (i : Input). nat_lt i.node (length s.nodes)) (flat_map inputs_in s.nodes) s.ends
    ∙ and_from _ _ (inputs_below (length s.nodes) s.nodes (all_read_below 0 (length s.nodes) s.nodes (omega arith) made.forward)) (ends_below count s made)
    in
    subst (λ inputs. are_distinct same_input (inputs ++ ends) ≡ true) (sym is)
    (distinct_on (length s.nodes) (flat_map inputs_in s.nodes ++ s.ends) ends made.once low outputs.distinct outputs.at)

mentions_more : (count : ℕ) (s : Sections) (columns : List (List ℕ)) (kind : Kind) → AreMade count s → Suits s.columns columns kind
    → mentions_from 0 (length columns) (flat_map columns_at (s.nodes ++ added s kind ∷ [])) ≡ true
mentions_more count s columns kind made suits =
    let is : flat_map columns_at (s.nodes ++ added s kind ∷ []) ≡ flat_map columns_at s.nodes ++ columns_of_kind kind =
    flat_map-append columns_at s.nodes (added s kind ∷ []) ∙ ap (λ more. flat_map columns_at s.nodes ++ more) (append-nil (columns_of_kind kind))
    in
    subst (λ mentions. mentions_from 0 (length columns) mentions ≡ true) (sym is)
    (mentions_on 0 (length s.columns) (length columns) (flat_map columns_at s.nodes) (columns_of_kind kind) made.mentions suits.mentions)

one_more_made : (count : ℕ) → count < 12 → (s : Sections) (columns : List (List ℕ)) (kind : Kind) (generator : Lcg) → AreMade count s → Suits s.columns columns kind
    → AreMade (suc count) (one_more s columns kind generator)
one_more_made count low s columns kind generator made suits =
    let outputs = are_outputs (length s.nodes) kind suits.outputs in
    record {
      mentioned = suits.mentioned;
      columns = suits.columns;
      later = made.later ++ added s kind ∷ [];
      nodes = ap (λ nodes. nodes ++ added s kind ∷ []) made.nodes;
      names = names_more count s kind made;
      stations = list_all-append is_station made.later (added s kind ∷ []) ∙ and_from _ _ made.stations (and_from _ _ (not_from_false _ suits.station) refl);
      first = list_all-append is_first made.later (added s kind ∷ []) ∙ and_from _ _ made.first (and_from _ _ suits.first refl);
      sound = sound_more count low s columns kind made suits;
      forward = forward_on 0 s.nodes (added s kind) (length s.nodes) (omega arith) made.forward (ends_below count s made);
      once = once_more count s kind (outputs_from (length s.nodes) kind) made outputs;
      some = outputs.some;
      given = outputs.given (s.nodes ++ added s kind ∷ []) (added s kind) (get-last s.nodes (added s kind)) refl;
      mentions = mentions_more count s columns kind made suits;
    }

-- a section of this draw, with these places
drawn_made : (count : ℕ) → count < 12 → (s : Sections) (drawn places : ℕ) (generator : Lcg) → AreMade count s → drawn < 6 → has_places drawn places ≡ true
    → (let columns = columns_after s.columns (mentions_of drawn) in AreMade (suc count) (one_more s columns (kind_by columns places drawn) generator))
drawn_made count low s drawn places generator made six fit =
    let columns = columns_after s.columns (mentions_of drawn) in
    one_more_made count low s columns (kind_by columns places drawn) generator made
    (subst (λ before. SectionSuits before drawn places) (sym made.columns) (section_suits made.mentioned drawn places six fit))

below_six : (n : ℕ) → n % 6 < 6
below_six n = omega arith

pub next_made : (count : ℕ) → count < 12 → (s : Sections) → AreMade count s → AreMade (suc count) (next_section s)
next_made count low s made =
    let drawn = draw 6 s.generator in
    let places = places_by drawn.0 drawn.1 in
    drawn_made count low s drawn.0 places.0 places.1 made (below_six (pcg32 s.generator).0) (places_drawn drawn.0 drawn.1)

pub more_made : (left count all : ℕ) → count + left ≡ all → all ≤ 12 → (s : Sections) → AreMade count s → AreMade all (sections_after left s)
unfolding sections_after
more_made zero count all is few s made = let e : count ≡ all = omega arith in subst (λ n. AreMade n s) e made
more_made (suc left) count all is few s made = more_made left (suc count) all (omega arith) few (next_section s) (next_made count (omega arith) s made)

-- how many sections a generator draws
abbrev pub sections_count : Lcg → ℕ
sections_count generator = (draw 12 generator).0 + 1

to_twelve : (n : ℕ) → n % 12 + 1 ≤ 12
to_twelve n = omega arith

pub few_sections : (generator : Lcg) → sections_count generator ≤ 12
few_sections generator = to_twelve (pcg32 generator).0

from_none : (n : ℕ) → 0 + n ≡ n
from_none n = omega arith

-- what a generator draws
pub all_made : (generator : Lcg) → AreMade (sections_count generator) (sections_from generator)
all_made generator =
    let count = sections_count generator in
    more_made count 0 count (from_none count) (few_sections generator) (no_sections (draw 12 generator).1) (none_made (draw 12 generator).1)

-- So many sections of those of a generator are drawn.
pub record IsUnderWay (first : Lcg) (done : ℕ) (s : Sections) : Type 0 where
  pub made : AreMade done s
  pub left : sections_after (sections_count first - done) s ≡ sections_from first

less_none : (n : ℕ) → n ≡ n - 0
less_none n = omega arith

pub under_way : (first : Lcg) (s : Sections) → s ≡ no_sections (draw 12 first).1 → IsUnderWay first 0 s
under_way first s is =
    let start : IsUnderWay first 0 (no_sections (draw 12 first).1) =
    record {
      made = none_made (draw 12 first).1;
      left = subst (λ n. sections_after n (no_sections (draw 12 first).1) ≡ sections_from first) (less_none (sections_count first)) refl;
    }
    in
    subst (IsUnderWay first 0) (sym is) start

sections_after_next : (count : ℕ) (s : Sections) → sections_after (suc count) s ≡ sections_after count (next_section s)
unfolding sections_after
sections_after_next count s = refl

next_left : (all done : ℕ) (s last : Sections) → done < all → sections_after (all - done) s ≡ last → sections_after (all - (done + 1)) (next_section s) ≡ last
next_left all done s last low left =
    let e : all - done ≡ suc (all - (done + 1)) = omega arith in
    sym (sections_after_next (all - (done + 1)) s) ∙ subst (λ n. sections_after n s ≡ last) e left

pub under_way_next : (first : Lcg) (all done : ℕ) (s next : Sections) → all ≡ sections_count first → done < all → IsUnderWay first done s → next ≡ next_section s → IsUnderWay first (done + 1) next
under_way_next first all done s next whole low way is =
    let few : all ≤ 12 = subst (λ n. n ≤ 12) (sym whole) (few_sections first) in
    let e : suc done ≡ done + 1 = omega arith in
    subst (IsUnderWay first (done + 1)) (sym is) (record {
      made = subst (λ n. AreMade n (next_section s)) e (next_made done (omega arith) s way.made);
      left = next_left (sections_count first) done s (sections_from first) (subst (λ n. done < n) whole low) way.left;
    })

none_left : (all done : ℕ) (s last : Sections) → all ≤ done → sections_after (all - done) s ≡ last → s ≡ last
unfolding sections_after
none_left all done s last high left = let e : all - done ≡ 0 = omega arith in subst (λ n. sections_after n s ≡ last) e left

pub under_way_ends : (first : Lcg) (all done : ℕ) (s : Sections) → all ≡ sections_count first → all ≤ done → IsUnderWay first done s → s ≡ sections_from first
under_way_ends first all done s whole high way = none_left (sections_count first) done s (sections_from first) (subst (λ n. n ≤ done) whole high) way.left

pub under_way_small : (first : Lcg) (all done : ℕ) (s : Sections) → all ≡ sections_count first → done < all → IsUnderWay first done s → length s.nodes ≤ 64
under_way_small first all done s whole low way =
    let few : all ≤ 12 = subst (λ n. n ≤ 12) (sym whole) (few_sections first) in
    let size : length s.nodes ≡ done + 2 = nodes_count done s way.made in
    omega arith
