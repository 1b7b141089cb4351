-- Blocks that were left, and the carries before them.
use Rattle.std.proofs.Common.{◌≡◌, ℕ, zero, suc, ◌+◌, ◌*◌, ◌^◌, ◌<◌, ◌≤◌, List, [], ◌∷◌, ◌++◌, length, drop, map, min, refl, sym, ap, ◌∙◌, subst, arith, append_assoc, All, Option, Some, None, get_or}
use Rattle.std.specs.Prelude.{slice_get}
use Rattle.std.proofs.lemmas.List.{append-nil, drop_all, map-append}
use Rattle.std.proofs.lemmas.List.Elements.{All-push}
use Rattle.std.proofs.lemmas.Option.{get_or_from_slice_get, slice_get-get_or}
use Rattle.mq_base.proofs.lemmas.Lists.{drop_at}
use Rattle.mq_chain.proofs.Folding.{step}
use Rattle.mq_maxplus.specs.declared.affine.Affine.{Affine}
use Rattle.mq_maxplus.specs.declared.mp.Mp.{Mp}
use Rattle.mq_maxplus.specs.declared.mp.Mp.TheVariants.{Void, At}
use Rattle.mq_maxplus.specs.Maxplus.{affine_act, CanAct}
use Rattle.mq_maxplus.specs.Within.{IsWithin}
use Rattle.mq_server.specs.Bounds.{fold-within}
use Rattle.mq_server.specs.Jobs.{job, IsLateLoad}
use Rattle.mq_pass.proofs.Publishing.{act-can}
use Rattle.mq_pass.proofs.Serving.{begins, range-short}
use Rattle.mq_pass.specs.Blocks.{carry_at, summary_at, departs_of, IsKnown}
use Rattle.mq_crew.specs.Crew.{AreAll}
use Rattle.mq_pass.specs.Passing.{IsLeft, IsApplied, AreApplied, if_left, left_at, left_from, stands_or}
use Rattle.mq_pass.specs.declared.block.Passed.{Passed}
use Rattle.mq_pass.specs.declared.left.Left.{Left}

number-next : (done done' : List Left) (rest all : List ℕ) (q : Left) (o : Option (List ℕ)) → done' ≡ done ++ if_left q o [] → map (λ (q : Left). q.block) done ++ if_left q.block o rest ≡ all → map (λ (q : Left). q.block) done' ++ rest ≡ all
number-next done done' rest all q None is so_far =
    ap (λ (l : List Left). map (λ (q : Left). q.block) l ++ rest) is ∙ (ap (λ (l : List ℕ). l ++ rest) (map-append (λ (q : Left). q.block) done (q ∷ [])) ∙ (append_assoc (map (λ (q : Left). q.block) done) (q.block ∷ []) rest ∙ so_far))
number-next done done' rest all q (Some l) is so_far = ap (λ (l : List Left). map (λ (q : Left). q.block) l ++ rest) (is ∙ append-nil done) ∙ so_far

-- the numbers of one block more
pub numbers-next : (done done' : List Left) (parts : List Passed) (all : List ℕ) (b : ℕ) (before : Mp) (p : Passed) → slice_get parts b ≡ Some p → done' ≡ done ++ if_left (left_at b before) p.departs []
    → map (λ (q : Left). q.block) done ++ left_from b (drop b parts) ≡ all → map (λ (q : Left). q.block) done' ++ left_from (b + 1) (drop (b + 1) parts) ≡ all
numbers-next done done' parts all b before p at is so_far =
    let next : suc b ≡ b + 1 = omega arith in
    number-next done done' (left_from (b + 1) (drop (b + 1) parts)) all (left_at b before) p.departs is
    (ap (λ (n : ℕ). map (λ (q : Left). q.block) done ++ if_left b p.departs (left_from n (drop (b + 1) parts))) (sym next) ∙ (sym (ap (λ (l : List Passed). map (λ (q : Left). q.block) done ++ left_from b l) (drop_at parts b p at)) ∙ so_far))

pub lefts-next : (P : Left → Type 0) (done done' : List Left) (q : Left) (o : Option (List ℕ)) → done' ≡ done ++ if_left q o [] → All P done → P q → All P done'
lefts-next P done done' q None is all here = subst (All P) (sym is) (All-push P done q all here)
lefts-next P done done' q (Some l) is all here = subst (All P) (sym (is ∙ append-nil done)) all

module _ (times demands : List ℕ) where
  -- a block's carry before it, where it begins
  pub carry-here : (b block blocks : ℕ) (c : Mp) → b < blocks → blocks * block < length times + block → c ≡ carry_at times demands (min (b * block) (length times)) → c ≡ carry_at times demands (b * block)
  carry-here b block blocks c lt less is =
      let inside = begins b block blocks (length times) lt less in
      let here : min (b * block) (length times) ≡ b * block = omega arith in
      is ∙ ap (carry_at times demands) here

  stands-next : (block b : ℕ) (stands acted : Mp) → IsKnown times demands block b stands → acted ≡ carry_at times demands (min ((b + 1) * block) (length times)) → stands_or stands acted ≡ carry_at times demands (min ((b + 1) * block) (length times))
  stands-next block b Void acted known is = is
  stands-next block b (At c) acted known is = known

  -- the carry after a block
  pub carry-next : (b block blocks : ℕ) (s : Affine) (stands before after : Mp) → 1 ≤ block → b < blocks → blocks * block < length times + block
      → before ≡ carry_at times demands (min (b * block) (length times)) → s ≡ summary_at times demands block b → IsKnown times demands block b stands → after ≡ stands_or stands (affine_act s before)
      → after ≡ carry_at times demands (min ((b + 1) * block) (length times))
  carry-next b block blocks s stands before after some lt less is sum known e =
      let inside = begins b block blocks (length times) lt less in
      let here = carry-here b block blocks before lt less is in
      e ∙ stands-next block b stands (affine_act s before) known ((λ i. affine_act (sum i) (here i)) ∙ step (job times demands) (length times) block b some inside)

  -- the carry before a block is early
  pub carry-early : IsLateLoad times demands → (n : ℕ) → n ≤ length times → IsWithin (2 ^ 63) (carry_at times demands n)
  carry-early load n le = within (carry_at times demands n) (fold-within times demands load n le)
    where
      within : (c : Mp) → IsWithin (2 ^ 62 + n * 2 ^ 36) c → IsWithin (2 ^ 63) c
      within Void h = tt
      within (At t) h = let few = load.few in omega arith

  pub carry-can : IsLateLoad times demands → (b block blocks : ℕ) (s : Affine) (before : Mp) → 1 ≤ block → b < blocks → blocks * block < length times + block
      → before ≡ carry_at times demands (min (b * block) (length times)) → s ≡ summary_at times demands block b → CanAct s before
  carry-can load b block blocks s before some lt less is sum =
      let inside = begins b block blocks (length times) lt less in
      let here = carry-here b block blocks before lt less is in
      let e : (b + 1) * block ≡ b * block + block = omega arith in
      let small = range-short times demands load (b * block) (min ((b + 1) * block) (length times)) (omega arith) (omega arith) in
      subst (λ (z : Affine × Mp). CanAct z.0 z.1) (λ i. (sym sum i, sym here i))
      (act-can (summary_at times demands block b) (carry_at times demands (b * block)) small.1 (carry-early load (b * block) (omega arith)))

-- what holds of each item holds of one that was read
pub part-at : {X : Type 0} (P : ℕ → X → Type 0) (n : ℕ) (xs : List X) (b : ℕ) (x : X) → ((k : ℕ) (d : X) → k < n → P k (get_or xs k d)) → slice_get xs b ≡ Some x → b < n → P b x
part-at P n xs b x all at lt = subst (P b) (get_or_from_slice_get xs b x x at) (all b x lt)

pub item-at : {X : Type 0} (P : ℕ → X → Type 0) (n : ℕ) (xs : List X) (b : ℕ) (x d : X) → ((k : ℕ) → k < n → P k (get_or xs k d)) → slice_get xs b ≡ Some x → b < n → P b x
item-at P n xs b x d all at lt = subst (P b) (get_or_from_slice_get xs b x d at) (all b lt)

pub left-few : (b : ℕ) (parts : List Passed) → length (left_from b parts) ≤ length parts
left-few b [] = omega arith
left-few b (p ∷ ps) = let rest = left-few (suc b) ps in one p.departs (left_from (suc b) ps) (length ps) rest
  where
    one : (o : Option (List ℕ)) (xs : List ℕ) (n : ℕ) → length xs ≤ n → length (if_left b o xs) ≤ suc n
    one None xs n le = omega arith
    one (Some l) xs n le = omega arith

map-at : (left : List Left) (i b : ℕ) → slice_get (map (λ (q : Left). q.block) left) i ≡ Some b → (q : Left) × (slice_get left i ≡ Some q) × (q.block ≡ b) × (i < length left)
map-at [] i b at = absurd cc
map-at (q ∷ left) zero b at = (q, refl, cc, omega arith)
map-at (q ∷ left) (suc i) b at = let rest = map-at left i b at in (rest.0, rest.1, rest.2, (let less = rest.3 in omega arith))

module _ (times demands : List ℕ) (block : ℕ) where
  -- a piece is the departures of its block
  pub piece-is : (blocks : ℕ) (left : List Left) (i : ℕ) (d : Left) (l : List ℕ) → All (IsLeft times demands block blocks) left → i < length left
      → l ≡ departs_of times demands block (get_or left i d).block (get_or left i d).before → IsApplied times demands block left i l
  piece-is blocks left i d l sound lt is q at =
      let here : get_or left i d ≡ q = get_or_from_slice_get left i q d at in
      is ∙ ((λ k. departs_of times demands block (here k).block (here k).before) ∙ ap (departs_of times demands block q.block) (subst (λ (z : Left). z.before ≡ carry_at times demands (z.block * block)) here (sound i d lt).before))

  pub applied-of : (left : List Left) (numbers : List ℕ) (applied : List (List ℕ)) → map (λ (q : Left). q.block) left ≡ numbers → AreAll (IsApplied times demands block left) (length left) applied → AreApplied times demands block numbers applied
  applied-of left numbers applied same all i b at =
      let found = map-at left i b (ap (λ (z : List ℕ). slice_get z i) same ∙ at) in
      let len = all.len in
      let less = found.3 in
      slice_get-get_or applied i [] (omega arith) ∙ ap Some (all.each i [] less found.0 found.1 ∙ ap (λ (n : ℕ). departs_of times demands block n (carry_at times demands (n * block))) found.2)

-- behind the last block no number is left
pub numbers-all : (done numbers : List ℕ) (parts : List Passed) (b : ℕ) → length parts ≤ b → done ++ left_from b (drop b parts) ≡ numbers → done ≡ numbers
numbers-all done numbers parts b l so_far = sym (append-nil done) ∙ (ap (λ (ps : List Passed). done ++ left_from b ps) (sym (drop_all b parts l)) ∙ so_far)
