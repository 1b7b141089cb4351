-- What one worker keeps as it passes over blocks, and what two that are joined have together.
use Rattle.std.proofs.Common.{◌≡◌, ℕ, ◌+◌, ◌-◌, ◌<◌, ◌≤◌, ◌⊎◌, List, [], ◌∷◌, ◌++◌, refl, sym, ap, ◌∙◌, subst, arith, ⊎_elim, Contains, All, Option, Some, None, IfSome, IfNone, Result, Ok, Err, IfOk, IsOkAnd}
use Rattle.std.proofs.lemmas.List.Elements.{Contains-append_cases, Contains-append_left, Contains-append_right, All-contains, All-weaker}
use Rattle.mq_chain.specs.Seats.{Seated, seated}
use Rattle.mq_chain.specs.Words.{carry_word, block_of, value_of}
use Rattle.mq_crew.specs.Crew.{IsMadeOf}
use Rattle.mq_crew.proofs.Working.{IsWorking, works-more, works-ended, made-both}
use Rattle.mq_maxplus.specs.declared.affine.Affine.{Affine}
use Rattle.mq_maxplus.specs.declared.mp.Mp.{Mp}
use Rattle.mq_maxplus.specs.declared.mp.Mp.TheVariants.{Void, At}
use Rattle.mq_maxplus.specs.Maxplus.{affine_act}
use Rattle.mq_pass.specs.declared.block.Passed.{Passed}
use Rattle.mq_pass.specs.Blocks.{departs_of, summary_at}
use Rattle.mq_pass.specs.Passing.{IsSeen, IsUnseen, IsPublished, HasNoPut, IsGrown, IsOwn, IsPassed, IsPass, look_before}

-- what a look found is found among more looks
pub seen-more : (looks more : List (ℕ × ℕ)) (b : ℕ) (c : Mp) → ((e : ℕ × ℕ) → Contains looks e → Contains more e) → IsSeen looks b c → IsSeen more b c
seen-more looks more b Void all seen = seen
seen-more looks more b (At v) all seen = (seen.0, all (carry_word (b - 1), v + 1) seen.1)

module _ (times demands : List ℕ) (block : ℕ) where
  module _ (puts stored looks more : List (ℕ × ℕ)) (kept : (e : ℕ × ℕ) → Contains puts e → Contains stored e) (all : (e : ℕ × ℕ) → Contains looks e → Contains more e) where
    departs-more : (b : ℕ) (o : Option (List ℕ)) → IfSome o (λ l. (c : Mp) × IsSeen looks b c × (l ≡ departs_of times demands block b c) × IsPublished puts b (summary_at times demands block b) c)
        → IfSome o (λ l. (c : Mp) × IsSeen more b c × (l ≡ departs_of times demands block b c) × IsPublished stored b (summary_at times demands block b) c)
    departs-more b None h = h
    departs-more b (Some l) h = (h.0, seen-more looks more b h.0 all h.1, h.2, λ small. kept (carry_word b, value_of (affine_act (summary_at times demands block b) h.0) + 1) (h.3 small))

    left-more : (b : ℕ) (o : Option (List ℕ)) → IfNone o (IsUnseen looks b) → IfNone o (IsUnseen more b)
    left-more b None h = (h.0, all (carry_word (b - 1), 0) h.1)
    left-more b (Some l) h = h

    -- what holds of a block holds where more was stored and seen
    pub passed-more : (b : ℕ) (p : Passed) → IsPassed times demands block puts looks b p → IsPassed times demands block stored more b p
    passed-more b p h = record { sum = h.sum; departs = departs-more b p.departs h.departs; left = left-more b p.departs h.left }

    pieces-more : (made : List (ℕ × Passed)) → All (λ p. IsPassed times demands block puts looks p.0 p.1) made → All (λ p. IsPassed times demands block stored more p.0 p.1) made
    pieces-more made h = All-weaker (λ (p : ℕ × Passed). IsPassed times demands block puts looks p.0 p.1) (λ (p : ℕ × Passed). IsPassed times demands block stored more p.0 p.1) (λ p k. passed-more p.0 p.1 k) made h

    made-more : (blocks : ℕ) (draws : List ℕ) (made : List (ℕ × Passed)) → IsMadeOf (IsPassed times demands block puts looks) blocks draws made → IsMadeOf (IsPassed times demands block stored more) blocks draws made
    made-more blocks draws made h = record { each = h.each; pieces = pieces-more made h.pieces; ended = h.ended }

    works-weaker : (blocks : ℕ) (draws : List ℕ) (made : List (ℕ × Passed)) → IsWorking (IsPassed times demands block puts looks) blocks draws made → IsWorking (IsPassed times demands block stored more) blocks draws made
    works-weaker blocks draws made h = record { each = h.each; pieces = pieces-more made h.pieces; early = h.early; long = h.long }

  -- what a block shows that was left
  pub left-shows : (puts : List (ℕ × ℕ)) (b : ℕ) (s : Affine) (before : Option Mp) → s ≡ summary_at times demands block b → before ≡ None → 1 ≤ b → IsPassed times demands block puts (look_before b before) b (record { summary = s; departs = None })
  left-shows puts b s before is none some = record { sum = is; departs = tt; left = (some, subst (λ (z : Option Mp). Contains (look_before b z) (carry_word (b - 1), 0)) (sym none) (0, omega arith, refl)) }

  -- what one shows that was served
  pub served-shows : (puts : List (ℕ × ℕ)) (b : ℕ) (s : Affine) (before : Option Mp) (c : Mp) (l : List ℕ) → s ≡ summary_at times demands block b → before ≡ Some c → IsSeen (look_before b (Some c)) b c → IsPublished puts b s c
      → l ≡ departs_of times demands block b c → IsPassed times demands block puts (look_before b before) b (record { summary = s; departs = Some l })
  served-shows puts b s before c l is some seen put served = record {
    sum = is;
    departs = (c, subst (λ (z : Option Mp). IsSeen (look_before b z) b c) (sym some) seen, served, subst (λ (z : Affine). IsPublished puts b z c) is put);
    left = tt;
  }

  nowhere : {X : Type 0} (x : X) → Contains [] x → ⊥
  nowhere x c = let l = c.1 in absurd (omega arith)

  -- one draw more
  pub own-drawn : (seat drawn : Seated) (n : ℕ) → drawn ≡ seated seat.table seat.right (seat.draws ++ n ∷ []) seat.puts seat.looks → IsOwn times demands block seat → IsOwn times demands block drawn
  own-drawn seat drawn n is own = subst (IsOwn times demands block) (sym is) (record { cut = own.cut; drawn = λ w x c. Contains-append_left seat.draws (n ∷ []) (block_of w) (own.drawn w x c) })

  -- a number above all draws is that of a block of which nothing was stored
  pub fresh-block : (seat drawn : Seated) (n : ℕ) → drawn ≡ seated seat.table seat.right (seat.draws ++ n ∷ []) seat.puts seat.looks → IsOwn times demands block seat → All (λ d. d < n) seat.draws → HasNoPut drawn.puts n
  fresh-block seat drawn n is own above = subst (λ (z : Seated). HasNoPut z.puts n) (sym is) (λ w x c e. let less : block_of w < n = All-contains (λ d. d < n) seat.draws (block_of w) above (own.drawn w x c) in absurd (omega arith))

  -- one block more
  pub passes-more : (blocks : ℕ) (s : Affine) (before : Option Mp) (seat drawn new : Seated) (made more : List (ℕ × Passed)) (n : ℕ) (p : Passed)
      → drawn ≡ seated seat.table seat.right (seat.draws ++ n ∷ []) seat.puts seat.looks → All (λ d. d < n) seat.draws → n < blocks → IsGrown n s before drawn new → IsPassed times demands block new.puts (look_before n before) n p
      → more ≡ made ++ (n, p) ∷ [] → IsWorking (IsPassed times demands block seat.puts seat.looks) blocks seat.draws made → IsWorking (IsPassed times demands block new.puts new.looks) blocks new.draws more
  passes-more blocks s before seat drawn new made more n p is above less g passed pushed w =
      let looks : new.looks ≡ seat.looks ++ look_before n before = g.looks ∙ ap (λ (z : Seated). z.looks ++ look_before n before) is in
      let draws : new.draws ≡ seat.draws ++ n ∷ [] = g.draws ∙ ap (λ (z : Seated). z.draws) is in
      let keeps : (e : ℕ × ℕ) → Contains seat.looks e → Contains new.looks e = λ e c. subst (λ (z : List (ℕ × ℕ)). Contains z e) (sym looks) (Contains-append_left seat.looks (look_before n before) e c) in
      let gains : (e : ℕ × ℕ) → Contains (look_before n before) e → Contains new.looks e = λ e c. subst (λ (z : List (ℕ × ℕ)). Contains z e) (sym looks) (Contains-append_right seat.looks (look_before n before) e c) in
      let stores : (e : ℕ × ℕ) → Contains seat.puts e → Contains new.puts e = λ e c. g.kept e (subst (λ (z : Seated). Contains z.puts e) (sym is) c) in
      subst (λ (z : List ℕ × List (ℕ × Passed)). IsWorking (IsPassed times demands block new.puts new.looks) blocks z.0 z.1) (λ i. (sym draws i, sym pushed i))
      (works-more (IsPassed times demands block new.puts new.looks) blocks seat.draws made n p (works-weaker seat.puts new.puts seat.looks new.looks stores keeps blocks seat.draws made w) above less
      (passed-more new.puts new.puts (look_before n before) new.looks (λ e c. c) gains n p passed))

  -- the last draw has reached the number of blocks
  pub passes-ended : (blocks : ℕ) (seat drawn : Seated) (made : List (ℕ × Passed)) (n : ℕ) → drawn ≡ seated seat.table seat.right (seat.draws ++ n ∷ []) seat.puts seat.looks → blocks ≤ n → IsOwn times demands block seat
      → IsWorking (IsPassed times demands block seat.puts seat.looks) blocks seat.draws made → IsPass times demands block blocks drawn made
  passes-ended blocks seat drawn made n is past own w = record {
    own = own-drawn seat drawn n is own;
    pieces = subst (λ (z : Seated). IsMadeOf (IsPassed times demands block z.puts z.looks) blocks z.draws made) (sym is) (works-ended (IsPassed times demands block seat.puts seat.looks) blocks seat.draws made n w past);
  }

  -- two seats that are joined
  own-both : (a b : Seated) (joined : Seated) → joined.draws ≡ a.draws ++ b.draws → joined.puts ≡ a.puts ++ b.puts → IsOwn times demands block a → IsOwn times demands block b → IsOwn times demands block joined
  own-both a b joined draws puts m n =
      let put : (w x : ℕ) → Contains joined.puts (w, x) → Contains a.puts (w, x) ⊎ Contains b.puts (w, x) = λ w x c. Contains-append_cases a.puts b.puts (w, x) (subst (λ (z : List (ℕ × ℕ)). Contains z (w, x)) puts c) in
      record {
        cut = record {
          some = m.cut.some;
          sums = λ d s c. ⊎_elim (λ l. m.cut.sums d s l) (λ r. n.cut.sums d s r) (put _ (s + 1) c);
          bests = λ d t c. ⊎_elim (λ l. m.cut.bests d t l) (λ r. n.cut.bests d t r) (put _ (t + 1) c);
        };
        drawn = λ w x c. subst (λ (z : List ℕ). Contains z (block_of w)) (sym draws) (⊎_elim (λ l. Contains-append_left a.draws b.draws _ (m.drawn w x l)) (λ r. Contains-append_right a.draws b.draws _ (n.drawn w x r)) (put w x c));
      }

  pass-both : (blocks : ℕ) (a b joined : Seated) (xs ys : List (ℕ × Passed)) → joined ≡ seated a.table (a.right + b.right) (a.draws ++ b.draws) (a.puts ++ b.puts) (a.looks ++ b.looks)
      → IsPass times demands block blocks a xs → IsPass times demands block blocks b ys → IsPass times demands block blocks joined (xs ++ ys)
  pass-both blocks a b joined xs ys is m n = subst (λ (z : Seated). IsPass times demands block blocks z (xs ++ ys)) (sym is) (record {
    own = own-both a b (seated a.table (a.right + b.right) (a.draws ++ b.draws) (a.puts ++ b.puts) (a.looks ++ b.looks)) refl refl m.own n.own;
    pieces = made-both (IsPassed times demands block (a.puts ++ b.puts) (a.looks ++ b.looks)) blocks a.draws b.draws xs ys
        (made-more a.puts (a.puts ++ b.puts) a.looks (a.looks ++ b.looks) (λ e c. Contains-append_left a.puts b.puts e c) (λ e c. Contains-append_left a.looks b.looks e c) blocks a.draws xs m.pieces)
        (made-more b.puts (a.puts ++ b.puts) b.looks (a.looks ++ b.looks) (λ e c. Contains-append_right a.puts b.puts e c) (λ e c. Contains-append_right a.looks b.looks e c) blocks b.draws ys n.pieces);
  })

  -- where the lists of two halves of the crew were put together
  pub both-passed : {V E : Type 0} (blocks : ℕ) (items : V → List (ℕ × Passed)) (first second r : Result V E) (a b joined : Seated) → joined ≡ seated a.table (a.right + b.right) (a.draws ++ b.draws) (a.puts ++ b.puts) (a.looks ++ b.looks)
      → IfOk r (λ v. IsOkAnd first (λ x. IsOkAnd second (λ y. items v ≡ items x ++ items y)))
      → IfOk first (λ v. IsPass times demands block blocks a (items v)) → IfOk second (λ v. IsPass times demands block blocks b (items v)) → IfOk r (λ v. IsPass times demands block blocks joined (items v))
  both-passed blocks items first second (Err e) a b joined is put m n = tt
  both-passed blocks items (Err e) second (Ok v) a b joined is put m n = absurd put
  both-passed blocks items (Ok x) (Err e) (Ok v) a b joined is put m n = absurd put
  both-passed blocks items (Ok x) (Ok y) (Ok v) a b joined is put m n = subst (IsPass times demands block blocks joined) (sym put) (pass-both blocks a b joined (items x) (items y) is m n)
