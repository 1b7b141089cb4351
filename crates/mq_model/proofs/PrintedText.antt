-- The canonical text of a sound network has no fault and declares it again.
use Rattle.std.proofs.Common.{◌≡◌, ◌∙◌, ap, refl, ℕ, ◌+◌, ◌*◌, ◌-◌, ◌<◌, ◌≤◌, List, [], ◌∷◌, ◌++◌, length, get_or, Bool, true, false, None, arith, append_assoc, length-append}
use Rattle.std.specs.Prelude.{◌&&◌, ◌==◌, decimal, nat_le, map}
use Rattle.std.specs.List.{All, list_all, flat_map, join_with_byte}
use Rattle.std.specs.Str.Lines.{strip_carriage_return}
use Rattle.std.proofs.lemmas.Bool.{and_parts, and_from, le-leb, leb-true, lt-ltb, ltb-true}
use Rattle.std.proofs.lemmas.Grind.{common_steps}
use Rattle.std.proofs.lemmas.List.Folds.{list_all-append}
use Rattle.mq_base.specs.Text.{is_blank, lines_of, words_of}
use Rattle.mq_base.proofs.lemmas.Lines.{lines_of-line, words_of-last, words_of-word}
use Rattle.mq_base.proofs.lemmas.Tests.{all_at, list_all_wider}
use Rattle.mq_model.specs.Form.{Word}
use Rattle.mq_model.specs.Head.{is_head, version_said}
use Rattle.mq_model.proofs.HeadFacts.{version_again}
use Rattle.mq_model.specs.Model.{is_allowed, model_fault}
use Rattle.mq_model.specs.Printed.{head_words, line_text, printed, said_words}
use Rattle.mq_model.specs.declared.said.Said.{Said}
use Rattle.mq_model.proofs.PrintedLines.{line_again}
use Rattle.mq_model.proofs.PrintedWords.{is_solid, is_visible, said_few, said_solid}
use Rattle.mq_model.proofs.PrintedNetwork.{AreInRange, said_in_range}
use Rattle.mq_model.proofs.TextBack.{AreSaid}
use Rattle.mq_graph.specs.Rank.{left_node}
use Rattle.mq_core.specs.declared.model.Network.{Network}
use Rattle.mq_core.specs.Sound.{is_sound}
use Rattle.mq_core.specs.Ranges.{is_within}
use Rattle.mq_model.specs.NetworkOf.{network_in, without_mark}
use Rattle.mq_model.specs.SaidOf.{names_in, node_by, saids_in}
use Rattle.mq_model.proofs.NetworkBack.{has_parts}
use Rattle.std.proofs.lemmas.List.{length-map}
use Rattle.mq_model.proofs.PlanBack.{text_again}

-- Lines: bytes 32 to 126.
abbrev is_plain : ℕ → Bool
is_plain b = nat_le 32 b && nat_le b 126

visible_plain : (b : ℕ) → is_visible b ≡ true → is_plain b ≡ true
visible_plain b h = grind (arith, common_steps, h)

plain_allowed : (b : ℕ) → is_plain b ≡ true → is_allowed b ≡ true
plain_allowed b h = grind (arith, common_steps, h)

plain_no_feed : (b : ℕ) → is_plain b ≡ true → (b == 10) ≡ false
plain_no_feed b h = grind (arith, common_steps, h)

plain_no_return : (b : ℕ) → is_plain b ≡ true → (b == 13) ≡ false
plain_no_return b h = grind (arith, common_steps, h)

visible_no_blank : (b : ℕ) → is_visible b ≡ true → is_blank b ≡ false
visible_no_blank b h = grind (arith, common_steps, h)

no_blank : (w : Word) → is_solid w ≡ true → All (λ b. is_blank b ≡ false) w
no_blank w h k d within = visible_no_blank (get_or w k d) (all_at is_visible w k d (and_parts _ _ h).1 within)

some_byte : (w : Word) → is_solid w ≡ true → 0 < length w
some_byte w h = let counts = and_parts _ _ (and_parts _ _ h).0 in ltb-true _ _ counts.0

words_again : (ws : List Word) → list_all is_solid ws ≡ true → words_of (join_with_byte 32 ws) ≡ ws
words_again [] h = refl
words_again (w ∷ []) h = let own = (and_parts _ _ h).0 in words_of-last w (no_blank w own) (some_byte w own)
words_again (w ∷ v ∷ ws) h =
    let both = and_parts _ _ h in
    words_of-word w (join_with_byte 32 (v ∷ ws)) 32 (no_blank w both.0) (some_byte w both.0) refl ∙ ap (λ more. w ∷ more) (words_again (v ∷ ws) both.1)

solid_plain : (w : Word) → is_solid w ≡ true → list_all is_plain w ≡ true
solid_plain w h = list_all_wider is_visible is_plain w visible_plain (and_parts _ _ h).1

joined_plain : (ws : List Word) → list_all is_solid ws ≡ true → list_all is_plain (join_with_byte 32 ws) ≡ true
joined_plain [] h = refl
joined_plain (w ∷ []) h = solid_plain w (and_parts _ _ h).0
joined_plain (w ∷ v ∷ ws) h =
    let both = and_parts _ _ h in
    list_all-append is_plain w (32 ∷ join_with_byte 32 (v ∷ ws)) ∙ and_from _ _ (solid_plain w both.0) (and_from _ _ refl (joined_plain (v ∷ ws) both.1))

no_feed : (l : List ℕ) → list_all is_plain l ≡ true → All (λ b. (b == 10) ≡ false) l
no_feed l h k d within = plain_no_feed (get_or l k d) (all_at is_plain l k d h within)

bare : (l : List ℕ) → list_all is_plain l ≡ true → strip_carriage_return l ≡ l
bare [] h = refl
bare (b ∷ l) h = let last = plain_no_return (get_or (b ∷ l) (length (b ∷ l) - 1) 0) (all_at is_plain (b ∷ l) (length (b ∷ l) - 1) 0 h (omega arith)) in rw last refl

abbrev AreSolid : List (List Word) → Type 0
AreSolid [] = Unit {0}
AreSolid (ws ∷ wss) = (list_all is_solid ws ≡ true) × AreSolid wss

lines_again : (wss : List (List Word)) → AreSolid wss → lines_of (flat_map line_text wss) ≡ map (join_with_byte 32) wss
lines_again [] h = refl
lines_again (ws ∷ wss) h =
    let plain = joined_plain ws h.0 in
    ap lines_of (append_assoc (join_with_byte 32 ws) (10 ∷ []) (flat_map line_text wss))
    ∙ lines_of-line (join_with_byte 32 ws) (flat_map line_text wss) (no_feed (join_with_byte 32 ws) plain) (bare (join_with_byte 32 ws) plain)
    ∙ ap (λ more. join_with_byte 32 ws ∷ more) (lines_again wss h.1)

all_solid : (saids : List Said) → AreInRange saids → AreSolid (map said_words saids)
all_solid [] h = tt
all_solid (said ∷ saids) h = (said_solid said h.0 h.1, all_solid saids h.2)

all_said : (saids : List Said) → AreInRange saids → AreSaid (map (join_with_byte 32) (map said_words saids)) saids
all_said [] h = tt
all_said (said ∷ saids) h =
    let solid = said_solid said h.0 h.1 in (
      record {
        allowed = list_all_wider is_plain is_allowed (join_with_byte 32 (said_words said)) plain_allowed (joined_plain (said_words said) solid);
        says = rw (words_again (said_words said) solid) (line_again said h.0 h.1);
      },
      all_said saids h.2,
    )

-- The length: at most 35 bytes a word, and 26 words a line.
line_length : (ws : List Word) → list_all is_solid ws ≡ true → 0 < length ws → length (line_text ws) ≤ 35 * length ws
line_length [] h some = absurd (omega arith)
line_length (w ∷ []) h some =
    let counts = and_parts _ _ (and_parts _ _ (and_parts _ _ h).0).0 in
    let short : length w ≤ 34 = leb-true _ _ counts.1 in
    let size : length (w ++ 10 ∷ []) ≡ length w + 1 = length-append w (10 ∷ []) in
    omega arith
line_length (w ∷ v ∷ ws) h some =
    let both = and_parts _ _ h in
    let counts = and_parts _ _ (and_parts _ _ both.0).0 in
    let short : length w ≤ 34 = leb-true _ _ counts.1 in
    let again : length (join_with_byte 32 (v ∷ ws) ++ 10 ∷ []) ≤ 35 * length (v ∷ ws) = line_length (v ∷ ws) both.1 (omega arith) in
    let size : length (line_text (w ∷ v ∷ ws)) ≡ length w + length (32 ∷ (join_with_byte 32 (v ∷ ws) ++ 10 ∷ [])) =
    ap length (append_assoc w (32 ∷ join_with_byte 32 (v ∷ ws)) (10 ∷ [])) ∙ length-append w (32 ∷ (join_with_byte 32 (v ∷ ws) ++ 10 ∷ [])) in
    omega arith

text_length : (saids : List Said) → AreInRange saids → length (flat_map line_text (map said_words saids)) ≤ 910 * length saids
text_length [] h = omega arith
text_length (said ∷ saids) h =
    let words = said_few said h.0 in
    let few = words.few in
    let line = line_length (said_words said) (said_solid said h.0 h.1) words.some in
    let again = text_length saids h.2 in
    let size : length (line_text (said_words said) ++ flat_map line_text (map said_words saids)) ≡ length (line_text (said_words said)) + length (flat_map line_text (map said_words saids)) =
    length-append (line_text (said_words said)) (flat_map line_text (map said_words saids)) in
    omega arith

head_solid : (version : ℕ) → is_within 1 2 version ≡ true → list_all is_solid (head_words version) ≡ true
head_solid version within =
    let read = version_again version within in
    let short = read.short in
    let few : is_solid (decimal version) ≡ true = and_from _ _ (and_from _ _ (lt-ltb 0 (length (decimal version)) (omega arith)) (le-leb (length (decimal version)) 34 (omega arith))) read.visible in
    and_from _ _ refl (and_from _ _ few refl)

printed_short : (net : Network) → is_sound net ≡ true → length (printed net) ≤ 65536
printed_short net sound =
    let most : length net.nodes ≤ 64 = leb-true _ _ (and_parts _ _ (has_parts net sound).size).1 in
    let count : length (map (node_by (names_in net) net.columns) net.nodes) ≡ length net.nodes = length-map net.nodes _ in
    let rest : length (flat_map line_text (map said_words (saids_in net))) ≤ 910 * length (saids_in net) = text_length (saids_in net) (said_in_range net sound) in
    let head : length (line_text (head_words net.version)) ≤ 35 * length (head_words net.version) = line_length (head_words net.version) (head_solid net.version (has_parts net sound).version) (omega arith) in
    let size : length (printed net) ≡ length (line_text (head_words net.version)) + length (flat_map line_text (map said_words (saids_in net))) =
    length-append (line_text (head_words net.version)) (flat_map line_text (map said_words (saids_in net))) in
    omega arith

-- The canonical text of a sound network without a cycle has no fault, and declares this network.
pub printed_again : (net : Network) → is_sound net ≡ true → left_node net.nodes ≡ None → (model_fault (printed net) ≡ None) × (network_in (printed net) ≡ net)
printed_again net sound left =
    let range = said_in_range net sound in
    let within = (has_parts net sound).version in
    let read = version_again net.version within in
    let solid = head_solid net.version within in
    let head : List ℕ = join_with_byte 32 (head_words net.version) in
    let words : words_of head ≡ head_words net.version = words_again (head_words net.version) solid in
    let lines : lines_of (without_mark (printed net)) ≡ head ∷ map (join_with_byte 32) (map said_words (saids_in net)) =
    lines_again (head_words net.version ∷ map said_words (saids_in net)) (solid, all_solid (saids_in net) range) in
    let allowed : list_all is_allowed head ≡ true = list_all_wider is_plain is_allowed head plain_allowed (joined_plain (head_words net.version) solid) in
    let is : is_head (words_of head) ≡ true = rw words (and_from _ _ refl read.known) in
    let version : version_said (words_of head) ≡ net.version = rw words read.said in
    text_again net (printed net) head (map (join_with_byte 32) (map said_words (saids_in net))) sound left (printed_short net sound) lines allowed is version (all_said (saids_in net) range)
