-- The nodes of a wave on two sides: each is on one, and what both give is what all give.
use Rattle.std.proofs.Common.{◌≡◌, ℕ, ◌+◌, ◌<◌, ◌≤◌, Bor, List, [], ◌∷◌, ◌++◌, length, get_or, take, Result, Ok, Err, IfOk, IsOkAnd, sym, ◌∙◌, subst, arith, length-append, append_assoc}
use Rattle.std.specs.Prelude.{Contains}
use Rattle.std.specs.List.Sorted.{IsPermutation}
use Rattle.std.proofs.lemmas.List.{take_more}
use Rattle.std.proofs.lemmas.List.Elements.{Contains-append_left, Contains-append_right}
use Rattle.std.proofs.lemmas.List.Sorted.{Contains-permutation, IsPermutation-append_left, IsPermutation-cons, IsPermutation-middle, IsPermutation-sym, IsPermutation-to_front, IsPermutation-trans, length_permutation}
use Rattle.std.proofs.lemmas.Option.{slice_get-get_or, slice_get_within}
use Rattle.mq_base.proofs.lemmas.Each.{Each-append}
use Rattle.mq_base.proofs.lemmas.Lists.{some_inj}
use Rattle.mq_arrivals.specs.declared.nodes.Arriving.{Arriving}
use Rattle.mq_exits.specs.Turns.{IsGiven}
use Rattle.mq_exits.specs.declared.keeping.Keep.{Keep}
use Rattle.mq_exits.specs.declared.turns.Given.{Given}
use Rattle.mq_engine.specs.Waves.{AreGiven, IsSide, IsWave}
use Rattle.mq_engine.proofs.Telling.{all-at, given-among}

-- one node more, on the one side or on the other
long-more : (long others before : List ℕ) (v : ℕ) → IsPermutation (long ++ others) before → IsPermutation ((long ++ v ∷ []) ++ others) (before ++ v ∷ [])
long-more long others before v is =
    let all = (long ++ v ∷ []) ++ others in
    let front : IsPermutation all (v ∷ (long ++ others)) = subst (λ l. IsPermutation l (v ∷ (long ++ others))) (sym (append_assoc long (v ∷ []) others)) (IsPermutation-middle long v others) in
    let more : IsPermutation all (v ∷ before) = IsPermutation-trans all (v ∷ (long ++ others)) (v ∷ before) front (IsPermutation-cons v (long ++ others) before is) in
    IsPermutation-trans all (v ∷ before) (before ++ v ∷ []) more (IsPermutation-sym (before ++ v ∷ []) (v ∷ before) (IsPermutation-to_front before v))

other-more : (long others before : List ℕ) (v : ℕ) → IsPermutation (long ++ others) before → IsPermutation (long ++ (others ++ v ∷ [])) (before ++ v ∷ [])
other-more long others before v is = subst (λ l. IsPermutation l (before ++ v ∷ [])) (append_assoc long others (v ∷ [])) (IsPermutation-append_left (v ∷ []) (long ++ others) before is)

-- the nodes so far, and the next
pub long-next : (ready : List ℕ) (at d : ℕ) (long others long' others' : List ℕ) → at < length ready → long' ≡ long ++ get_or ready at d ∷ [] → others' ≡ others → IsPermutation (long ++ others) (take at ready) → IsPermutation (long' ++ others') (take (at + 1) ready)
long-next ready at d long others long' others' inside a b is =
    subst (λ (z : List ℕ × List ℕ). IsPermutation z.0 z.1) (λ k. (sym a k ++ sym b k, sym (take_more ready at d inside) k)) (long-more long others (take at ready) (get_or ready at d) is)

pub other-next : (ready : List ℕ) (at d : ℕ) (long others long' others' : List ℕ) → at < length ready → long' ≡ long → others' ≡ others ++ get_or ready at d ∷ [] → IsPermutation (long ++ others) (take at ready) → IsPermutation (long' ++ others') (take (at + 1) ready)
other-next ready at d long others long' others' inside a b is =
    subst (λ (z : List ℕ × List ℕ). IsPermutation z.0 z.1) (λ k. (sym a k ++ sym b k, sym (take_more ready at d inside) k)) (other-more long others (take at ready) (get_or ready at d) is)

-- no side is longer than the wave
pub sides-few : (long others ready : List ℕ) → IsPermutation (long ++ others) ready → length ready ≤ 64 → (length long ≤ 64) × (length others ≤ 64)
sides-few long others ready is few =
    let all = length_permutation (long ++ others) ready is in
    let parts = length-append long others in
    (omega arith, omega arith)

-- what stands on a side is in the wave
pub long-ready : (long others ready : List ℕ) → IsPermutation (long ++ others) ready → (v : ℕ) → Contains long v → Contains ready v
long-ready long others ready is v h = Contains-permutation (long ++ others) ready v is (Contains-append_left long others v h)

pub other-ready : (long others ready : List ℕ) → IsPermutation (long ++ others) ready → (v : ℕ) → Contains others v → Contains ready v
other-ready long others ready is v h = Contains-permutation (long ++ others) ready v is (Contains-append_right long others v h)

-- these nodes of a wave
abbrev pub side_of_wave : Arriving → Bor (List ℕ) → Arriving
side_of_wave s ready = record { plan = s.plan; rows = s.rows; outputs = s.outputs; ready = ready; block = s.block }

pub is-side : (s : Arriving) (ready : Bor (List ℕ)) → IsWave s → ((v : ℕ) → Contains ready.now v → Contains s.ready.now v) → length ready.now ≤ 64 → IsSide (side_of_wave s ready)
is-side s ready wave among few =
    record {
      wave =
          record {
            read = wave.read;
            early = wave.early;
            all = λ k v e.
                let inside = slice_get_within ready.now k v e in
                all-at s v wave (among v (k, inside, some_inj _ _ (sym (slice_get-get_or ready.now k v inside) ∙ e)));
            block = wave.block;
          };
      few = few;
    }

-- what both sides give
pub both-given : (keep : Keep) (s : Arriving) (long others : Bor (List ℕ)) (a b : List Given) → IsPermutation (long.now ++ others.now) s.ready.now →
    AreGiven keep (side_of_wave s long) a → AreGiven keep (side_of_wave s others) b → AreGiven keep s (a ++ b)
both-given keep s long others a b is first second =
    let is_given = IsGiven keep s.plan.now s.rows.now s.ready.now in
    record {
      len =
          let all = length_permutation (long.now ++ others.now) s.ready.now is in
          let parts = length-append long.now others.now in
          let both = length-append a b in
          let one = first.len in
          let other = second.len in
          omega arith;
      known = Each-append is_given a b
          (given-among keep s.plan.now s.rows.now long.now s.ready.now a (long-ready long.now others.now s.ready.now is) first.known)
          (given-among keep s.plan.now s.rows.now others.now s.ready.now b (other-ready long.now others.now s.ready.now is) second.known);
    }

pub appended-given : (keep : Keep) (s : Arriving) (long others : Bor (List ℕ)) {E : Type 0} (first second all : Result (List Given) E) → IsPermutation (long.now ++ others.now) s.ready.now →
    IfOk first (AreGiven keep (side_of_wave s long)) → IfOk second (AreGiven keep (side_of_wave s others)) → IfOk all (λ l. IsOkAnd first (λ a. IsOkAnd second (λ b. l ≡ a ++ b))) → IfOk all (AreGiven keep s)
appended-given keep s long others first second (Err e) is a b put = tt
appended-given keep s long others (Err e) second (Ok l) is a b put = absurd put
appended-given keep s long others (Ok x) (Err e) (Ok l) is a b put = absurd put
appended-given keep s long others (Ok x) (Ok y) (Ok l) is a b put = subst (AreGiven keep s) (sym put) (both-given keep s long others x y is a b)
