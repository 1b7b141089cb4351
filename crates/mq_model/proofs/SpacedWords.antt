-- Words with a space between each two, and words behind a space each.
use Rattle.std.proofs.Common.{◌≡◌, ◌∙◌, sym, ap, refl, ℕ, List, [], ◌∷◌, ◌++◌, map, append_assoc, append-nil}
use Rattle.std.specs.Prelude.{codes, decimal}
use Rattle.std.specs.List.{flat_map, join_with_byte}
use Rattle.mq_core.specs.declared.model.Network.{Network}
use Rattle.mq_model.specs.Form.{Word}
use Rattle.mq_model.specs.Printed.{head_words, line_text, printed, said_words, spaced}
use Rattle.mq_model.specs.SaidOf.{names_in, node_by}
use Rattle.mq_model.specs.declared.said.Said.TheVariants.{Bound}

-- a line's words, each but the first behind a space
pub joined : (w : Word) (ws : List Word) → join_with_byte 32 (w ∷ ws) ≡ w ++ spaced ws
joined w [] = sym (append-nil w)
joined w (v ∷ ws) = ap (λ l. w ++ 32 ∷ l) (joined v ws)

pub spaced_more : (ws more : List Word) → spaced (ws ++ more) ≡ spaced ws ++ spaced more
spaced_more [] more = refl
spaced_more (w ∷ ws) more = ap (λ l. 32 ∷ w ++ l) (spaced_more ws more) ∙ sym (append_assoc (32 ∷ w) (spaced ws) (spaced more))

-- What a text is after the words of a node's line, where they are added part by part.
pub node_text : (old first name start named kinded end : List ℕ) (kind reads : List Word) → start ≡ old ++ first → named ≡ start ++ 32 ∷ name → kinded ≡ named ++ spaced kind → end ≡ kinded ++ spaced reads
    → end ≡ old ++ join_with_byte 32 (first ∷ name ∷ (kind ++ reads))
node_text old first name start named kinded end kind reads e1 e2 e3 e4 =
    rw (e4, e3, e2, e1) (append_assoc ((old ++ first) ++ 32 ∷ name) (spaced kind) (spaced reads) ∙ ap (λ l. ((old ++ first) ++ 32 ∷ name) ++ l) (sym (spaced_more kind reads))
    ∙ append_assoc (old ++ first) (32 ∷ name) (spaced (kind ++ reads)) ∙ append_assoc old first (32 ∷ name ++ spaced (kind ++ reads)) ∙ ap (λ l. old ++ (first ++ 32 ∷ l)) (sym (joined name (kind ++ reads))))

-- the parts of a list with one item more
pub last_word : {A C : Type 0} (f : C → List ℕ) (g : A → C) (ys : List A) (x : A) → flat_map f (map g (ys ++ x ∷ [])) ≡ flat_map f (map g ys) ++ f (g x)
last_word f g [] x = append-nil (f (g x))
last_word f g (y ∷ ys) x = ap (λ l. f (g y) ++ l) (last_word f g ys x) ∙ sym (append_assoc (f (g y)) (flat_map f (map g ys)) (f (g x)))

pub last_part : {A B C : Type 0} (f : C → List ℕ) (g : B → C) (h : A → B) (ys : List A) (x : A) → flat_map f (map g (map h (ys ++ x ∷ []))) ≡ flat_map f (map g (map h ys)) ++ f (g (h x))
last_part f g h [] x = append-nil (f (g (h x)))
last_part f g h (y ∷ ys) x = ap (λ l. f (g (h y)) ++ l) (last_part f g h ys x) ∙ sym (append_assoc (f (g (h y))) (flat_map f (map g (map h ys))) (f (g (h x))))

pub last_words : {A B : Type 0} (g : B → List Word) (h : A → B) (ys : List A) (x : A) → spaced (flat_map g (map h (ys ++ x ∷ []))) ≡ spaced (flat_map g (map h ys)) ++ spaced (g (h x))
last_words g h [] x = ap spaced (append-nil (g (h x)))
last_words g h (y ∷ ys) x =
    spaced_more (g (h y)) (flat_map g (map h (ys ++ x ∷ []))) ∙ ap (λ l. spaced (g (h y)) ++ l) (last_words g h ys x)
    ∙ sym (append_assoc (spaced (g (h y))) (spaced (flat_map g (map h ys))) (spaced (g (h x)))) ∙ ap (λ l. l ++ spaced (g (h x))) (sym (spaced_more (g (h y)) (flat_map g (map h ys))))

-- what is added behind a word
pub behind_from : (start word more keyed end : List ℕ) → keyed ≡ start ++ word → end ≡ keyed ++ more → end ≡ start ++ (word ++ more)
behind_from start word more keyed end e h = h ∙ ap (λ l. l ++ more) e ∙ append_assoc start word more

-- The text of a plan: after its head and its bound, and after its nodes.
head_parts : (feed : ℕ) (version name bound : List ℕ) → ((version ++ feed ∷ name) ++ bound) ++ feed ∷ [] ≡ ((version ++ feed ∷ []) ++ (name ++ ((bound ++ feed ∷ []) ++ []))) ++ []
head_parts feed version name bound = simp (append_assoc, append-nil)

pub printed_head : (version bound : ℕ) (text : List ℕ) → text ≡ []
    → ((((text ++ codes "model ") ++ decimal version) ++ codes "\nbound ") ++ decimal bound) ++ 10 ∷ [] ≡ printed (record { nodes = []; columns = []; bound = bound; version = version }) ++ []
printed_head version bound text e = rw e (ap (λ l. 109 ∷ 111 ∷ 100 ∷ 101 ∷ 108 ∷ 32 ∷ l) (head_parts 10 (decimal version) (codes "bound ") (decimal bound)))

two_and_more : (a b more : List ℕ) → (a ++ (b ++ [])) ++ more ≡ a ++ (b ++ more)
two_and_more a b more = append_assoc a (b ++ []) more ∙ ap (λ l. a ++ (l ++ more)) (append-nil b)

pub printed_nodes : (net : Network)
    → printed (record { nodes = []; columns = []; bound = net.bound; version = net.version }) ++ flat_map line_text (map said_words (map (node_by (names_in net) net.columns) net.nodes)) ≡ printed net
printed_nodes net = two_and_more (line_text (head_words net.version)) (line_text (said_words (Bound net.bound))) (flat_map line_text (map said_words (map (node_by (names_in net) net.columns) net.nodes)))
