-- The last jobs of a run, gone through from the carry before them, behind the blocks that stay.
use Rattle.std.proofs.Common.{◌≡◌, ℕ, zero, suc, ◌+◌, ◌-◌, ◌*◌, ◌<◌, ◌≤◌, ◌⊎◌, inl, inr, List, [], ◌∷◌, ◌++◌, length, length-append, get_or, map, min, take, refl, sym, ap, ◌∙◌, subst, arith, Some, slice_get}
use Rattle.std.proofs.Math.ListN.{get_or-append}
use Rattle.std.proofs.Math.Nat.{mul-le-mul_right}
use Rattle.std.proofs.lemmas.Bool.{cases_lt}
use Rattle.std.proofs.lemmas.List.{get_or-append_right, map-append, take-map}
use Rattle.std.proofs.lemmas.Option.{get_or_from_slice_get, slice_get_within}
use Rattle.mq_base.proofs.lemmas.Lists.{some_inj}
use Rattle.mq_core.specs.declared.model.Fate.{Fate}
use Rattle.mq_core.specs.declared.model.Fate.TheVariants.{Departs}
use Rattle.mq_scan.proofs.Spans.{times-append}
use Rattle.mq_scan.specs.Folds.{carries_after, fold_to}
use Rattle.mq_scan.specs.declared.blocks.Blocks.{Blocks}
use Rattle.mq_redo.specs.Doing.{AreBehind, AreDone, AreStaying}
use Rattle.mq_redo.specs.Staying.{IsKeptScan}
use Rattle.mq_redo.proofs.Doing.{fold-same, staying-done}
use Rattle.mq_redo.proofs.Staying.{staying}

-- two cuts of as many indices have as many blocks
blocks-within : (block n a b : ℕ) → n ≤ b * block → a * block < n + block → a ≤ b
blocks-within block n a b all more = go (cases_lt b a)
  where
    go : (b < a) ⊎ (a ≤ b) → a ≤ b
    go (inr few) = few
    go (inl many) =
        let up : (b + 1) * block ≤ a * block = mul-le-mul_right block (omega arith) in
        let next : (b + 1) * block ≡ b * block + block = omega arith in
        absurd (omega arith)

-- the blocks of all jobs are the first ones and those of the jobs behind them
pub blocks-behind : (blocks last : Blocks) (first : ℕ) → last.block ≡ blocks.block → last.n + first * blocks.block ≡ blocks.n → first + last.blocks ≡ blocks.blocks
blocks-behind blocks last first same count =
    let all = blocks.all in
    let more = blocks.none_more in
    let last_all : last.n ≤ last.blocks * blocks.block = subst (λ (b : ℕ). last.n ≤ last.blocks * b) same last.all in
    let last_more : last.blocks * blocks.block < last.n + blocks.block = subst (λ (b : ℕ). last.blocks * b < last.n + b) same last.none_more in
    let sum : (first + last.blocks) * blocks.block ≡ first * blocks.block + last.blocks * blocks.block = omega arith in
    let a = blocks-within blocks.block blocks.n (first + last.blocks) blocks.blocks all (omega arith) in
    let b = blocks-within blocks.block blocks.n blocks.blocks (first + last.blocks) (omega arith) more in
    omega arith

-- jobs that do what those of a run do from an index on, from the carry before it
module _ {S C : Type 0} (does : ℕ → C → C) (start : C) (acted : S → C → C) (part : ℕ → S) (carry : C) (from size : ℕ)
    (does_as : (k : ℕ) → k < size → (c : C) → acted (part k) c ≡ does (from + k) c)
    (begins : carry ≡ fold_to does start (λ k. k) from) where
  pub tail-fold : (n : ℕ) → n ≤ size → fold_to acted carry part n ≡ fold_to does start (λ k. k) (from + n)
  tail-fold zero l = let e : from ≡ from + 0 = omega arith in begins ∙ ap (fold_to does start (λ k. k)) e
  tail-fold (suc n) l =
      let e : suc (from + n) ≡ from + suc n = omega arith in
      ap (acted (part n)) (tail-fold n (omega arith)) ∙ (does_as n (omega arith) (fold_to does start (λ k. k) (from + n)) ∙ ap (fold_to does start (λ k. k)) e)

  pub tail-carries : (at n : ℕ) → at + n ≤ size → carries_after acted carry part at n ≡ carries_after does start (λ k. k) (from + at) n
  tail-carries at zero l = refl
  tail-carries at (suc n) l =
      let e : from + suc at ≡ suc (from + at) = omega arith in
      (λ i. (tail-fold (suc at) (omega arith) ∙ ap (fold_to does start (λ k. k)) e) i ∷ (tail-carries (suc at) n (omega arith) ∙ ap (λ (k : ℕ). carries_after does start (λ k. k) k n) e) i)

  -- where the first blocks are done, all are
  module _ (time : C → ℕ) (blocks last : Blocks) (first : ℕ) (times times' : List ℕ) (carries carries' : List C) (same : last.block ≡ blocks.block) (count : last.n ≡ size) (begin : from ≡ first * blocks.block) (all : size + from ≡ blocks.n)
      (done : AreDone time does start (λ k. k) blocks first times carries) (behind : AreDone time acted carry part last last.blocks times' carries') where
    many : first + last.blocks ≡ blocks.blocks
    many = blocks-behind blocks last first same (omega arith)

    first-times : times ≡ map time (carries_after does start (λ k. k) 0 from)
    first-times = let e : min (first * blocks.block) blocks.n ≡ from = omega arith in done.times_are ∙ ap (λ (n : ℕ). map time (carries_after does start (λ k. k) 0 n)) e

    last-times : times' ≡ map time (carries_after does start (λ k. k) (0 + from) size)
    last-times =
        let within = last.all in
        let e : min (last.blocks * last.block) last.n ≡ size = omega arith in
        let index : from + 0 ≡ 0 + from = omega arith in
        behind.times_are ∙ (ap (λ (n : ℕ). map time (carries_after acted carry part 0 n)) e ∙ (ap (map time) (tail-carries 0 size (omega arith)) ∙ ap (λ (k : ℕ). map time (carries_after does start (λ k. k) k size)) index))

    all-times : times ++ times' ≡ map time (carries_after does start (λ k. k) 0 (min (blocks.blocks * blocks.block) blocks.n))
    all-times =
        let within = blocks.all in
        let e : from + size ≡ min (blocks.blocks * blocks.block) blocks.n = omega arith in
        (λ i. first-times i ++ last-times i) ∙ (times-append does start (λ k. k) time 0 from size ∙ ap (λ (n : ℕ). map time (carries_after does start (λ k. k) 0 n)) e)

    all-behind : AreBehind does start (λ k. k) blocks.block blocks.n (carries ++ carries')
    all-behind k d l = go (cases_lt k (length carries))
      where
        go : (k < length carries) ⊎ (length carries ≤ k) → get_or (carries ++ carries') k d ≡ fold_to does start (λ k. k) (min ((k + 1) * blocks.block) blocks.n)
        go (inl early) = get_or-append carries carries' d k early ∙ done.behind k d early
        go (inr late) =
            let long = length-append carries carries' in
            let few = done.count_is in
            let inside : k - first < length carries' = omega arith in
            let sum : (k + 1) * blocks.block ≡ first * blocks.block + (k - first + 1) * blocks.block = ap (λ (n : ℕ). n * blocks.block) {x = k + 1} {y = first + (k - first + 1)} (omega arith) ∙ omega arith in
            let part_end : from + min ((k - first + 1) * last.block) last.n ≡ min ((k + 1) * blocks.block) blocks.n = ap (λ (b : ℕ). from + min ((k - first + 1) * b) last.n) same ∙ omega arith in
            get_or-append_right carries carries' first k d few (omega arith)
            ∙ (behind.behind (k - first) d inside
            ∙ (tail-fold (min ((k - first + 1) * last.block) last.n) (omega arith) ∙ ap (fold_to does start (λ k. k)) part_end))

    pub all-done : AreDone time does start (λ k. k) blocks blocks.blocks (times ++ times') (carries ++ carries')
    all-done = record {
      count_is = length-append carries carries' ∙ (let a = done.count_is in let b = behind.count_is in let c = many in omega arith);
      times_are = all-times;
      behind = all-behind;
    }

-- Where the first blocks of a kept run stay: the carry behind them, and all jobs with those behind them.
module _ {C : Type 0} (time : C → ℕ) (does does' : ℕ → C → C) (start : C) (jobs block : ℕ) (times : List ℕ) (carries : List C) (scan : IsKeptScan time does start jobs block times carries)
    (first : ℕ) (within : first * block ≤ jobs) (same : (k : ℕ) → k < first * block → (c : C) → does k c ≡ does' k c) where
  stays : AreStaying time (λ k c. does' k c) start (λ k. k) block first (take (first * block) times) carries
  stays = staying time does start jobs block times carries scan (λ k c. does' k c) (λ k. k) first (take (first * block) times) within same refl

  pub first-few : first ≤ length carries
  first-few = stays.many

  pub carry-is : (carry : C) → slice_get (start ∷ carries) first ≡ Some carry → carry ≡ fold_to does' start (λ k. k) (first * block)
  carry-is carry at = go first within at refl
    where
      go : (n : ℕ) → n * block ≤ jobs → slice_get (start ∷ carries) n ≡ Some carry → n ≡ first → carry ≡ fold_to does' start (λ k. k) (first * block)
      go zero l e is = let none : 0 ≡ first * block = (let f : 0 * block ≡ first * block = ap (λ (k : ℕ). k * block) is in omega arith) in sym (some_inj start carry e) ∙ ap (fold_to does' start (λ k. k)) none
      go (suc n) l e is =
          let inside = slice_get_within carries n carry e in
          let size = scan.block_is in
          let count = scan.all in
          let ends : min ((n + 1) * scan.blocks.block) scan.blocks.n ≡ first * block = (let f : (n + 1) * scan.blocks.block ≡ (n + 1) * block = ap (λ (k : ℕ). (n + 1) * k) size in let g : (n + 1) * block ≡ first * block = ap (λ (k : ℕ). k * block) {x = n + 1} {y = first} (omega arith) in omega arith) in
          sym (get_or_from_slice_get carries n carry carry e)
          ∙ (scan.done.behind n carry inside ∙ (ap (fold_to does start (λ k. k)) ends ∙ fold-same (λ k c. does' k c) start does (λ k. k) (first * block) same (first * block) (omega arith)))

  -- what is kept then
  pub scan-behind : {S : Type 0} (acted : S → C → C) (part : ℕ → S) (carry : C) (blocks last : Blocks) (times' : List ℕ) (carries' : List C) → blocks.block ≡ block → last.block ≡ block → last.n + first * block ≡ blocks.n → slice_get (start ∷ carries) first ≡ Some carry →
      ((k : ℕ) → k < last.n → (c : C) → acted (part k) c ≡ does' (first * block + k) c) → AreDone time acted carry part last last.blocks times' carries' → IsKeptScan time does' start blocks.n block (take (first * block) times ++ times') (take first carries ++ carries')
  scan-behind acted part carry blocks last times' carries' b b' count at does_as behind =
      let starts : first * block ≡ first * blocks.block = ap (λ (n : ℕ). first * n) (sym b) in
      let inside : first * blocks.block ≤ blocks.n = omega arith in
      let stay = subst (λ (n : ℕ). AreStaying time (λ k c. does' k c) start (λ k. k) n first (take (first * block) times) carries) (sym b) stays in
      let done = staying-done time (λ k c. does' k c) start (λ k. k) blocks first (take (first * block) times) carries (take first carries) inside stay refl in
      record {
        blocks = blocks;
        all = refl;
        block_is = b;
        done = all-done does' start acted part carry (first * block) last.n does_as (carry-is carry at) time blocks last first (take (first * block) times) times' (take first carries) carries' (b' ∙ sym b) refl starts count done behind;
      }

-- the fates of all, where the first stay
pub fates-behind : (count : ℕ) (fates : List Fate) (times times' : List ℕ) → fates ≡ map (λ time. Departs time) times → take count fates ++ map (λ time. Departs time) times' ≡ map (λ time. Departs time) (take count times ++ times')
fates-behind count fates times times' is =
    (λ i. (ap (take count) is ∙ take-map (λ (time : ℕ). Departs time) count times) i ++ map (λ time. Departs time) times') ∙ sym (map-append (λ (time : ℕ). Departs time) (take count times) times')

-- times are told by the fates of visits that depart then
pub times-told : (times others : List ℕ) → map (λ time. Departs time) times ≡ map (λ time. Departs time) others → times ≡ others
times-told times others e = sym (map-back times) ∙ (ap (map time_in) e ∙ map-back others)
  where
    time_in : Fate → ℕ
    time_in (Departs time) = time
    time_in _ = 0

    map-back : (ts : List ℕ) → map time_in (map (λ time. Departs time) ts) ≡ ts
    map-back [] = refl
    map-back (t ∷ ts) = ap (λ us. t ∷ us) (map-back ts)
