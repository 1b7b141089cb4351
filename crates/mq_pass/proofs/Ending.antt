-- What the closed table tells of the blocks that the workers passed over.
use Rattle.std.proofs.Common.{◌≡◌, ℕ, ◌+◌, ◌-◌, ◌*◌, ◌<◌, List, length, min, refl, sym, ap, ◌∙◌, arith, All, Contains, Option, Some, None, IfSome, get_or}
use Rattle.std.proofs.lemmas.List.Elements.{All-contains}
use Rattle.mq_chain.specs.Cut.{AreOfCut, AreFolded}
use Rattle.mq_chain.specs.Stored.{IsClosed}
use Rattle.mq_maxplus.specs.declared.mp.Mp.{Mp}
use Rattle.mq_maxplus.specs.declared.mp.Mp.TheVariants.{Void, At}
use Rattle.mq_server.specs.Jobs.{job}
use Rattle.mq_pass.proofs.Serving.{begins}
use Rattle.mq_pass.specs.Blocks.{carry_at, departs_of, summary_at, IsKnown}
use Rattle.mq_pass.specs.Passing.{IsSeen, IsPublished, IsPassed, IsRight}
use Rattle.mq_pass.specs.declared.block.Passed.{Passed}

module _ (times demands : List ℕ) (block : ℕ) (puts looks : List (ℕ × ℕ)) (cut : AreOfCut (job times demands) (length times) block puts) where
  module _ (blocks : ℕ) (carries : List Mp) (less : blocks * block < length times + block) (closed : (b : ℕ) → b < blocks → IsClosed puts looks b (get_or carries b Void)) (folded : AreFolded puts blocks carries) where
    -- a closed carry is that of all jobs up to the end of its block
    known-of : (b : ℕ) (m : Mp) → b < blocks → get_or carries b Void ≡ m → IsKnown times demands block b m
    known-of b Void lt is = tt
    known-of b (At c) lt is = folded (job times demands) (length times) block b c cut lt (begins b block blocks (length times) lt less) is

    -- a carry that a look found is the one before the block
    pub seen-right : (b : ℕ) (c : Mp) → b < blocks → IsSeen looks b c → c ≡ carry_at times demands (b * block)
    seen-right b Void lt seen =
        let none : 0 ≡ 0 * block = omega arith in
        let first : 0 ≡ b * block = none ∙ ap (λ (n : ℕ). n * block) {x = 0} {y = b} (sym seen) in
        ap (carry_at times demands) {x = 0} {y = b * block} first
    seen-right b (At v) lt seen =
        let some = seen.0 in
        found (get_or carries (b - 1) Void) refl (closed (b - 1) (omega arith))
      where
        found : (m : Mp) → get_or carries (b - 1) Void ≡ m → IsClosed puts looks (b - 1) m → At v ≡ carry_at times demands (b * block)
        found Void e none = absurd (none.1 v seen.1)
        found (At x) e is =
            let some = seen.0 in
            let inside = begins b block blocks (length times) lt less in
            let back : b - 1 + 1 ≡ b = omega arith in
            let same : (b - 1 + 1) * block ≡ b * block = ap (λ (n : ℕ). n * block) back in
            ap At (is.2 v seen.1) ∙ (known-of (b - 1) (At x) (omega arith) e ∙ ap (carry_at times demands) {x = min ((b - 1 + 1) * block) (length times)} {y = b * block} (omega arith))

    departs-right : (b : ℕ) (o : Option (List ℕ)) → b < blocks → IfSome o (λ l. (c : Mp) × IsSeen looks b c × (l ≡ departs_of times demands block b c) × IsPublished puts b (summary_at times demands block b) c) → IfSome o (λ l. l ≡ departs_of times demands block b (carry_at times demands (b * block)))
    departs-right b None lt h = h
    departs-right b (Some l) lt h = h.2 ∙ ap (departs_of times demands block b) (seen-right b h.0 lt h.1)

    -- a block that was passed over is right
    pub passed-right : (b : ℕ) (p : Passed) → b < blocks → IsPassed times demands block puts looks b p → IsRight times demands block b p
    passed-right b p lt h = record { sum = h.sum; departs = departs-right b p.departs lt h.departs }

    pub all-right : (made : List (ℕ × Passed)) (passed : List Passed) → All (λ p. IsPassed times demands block puts looks p.0 p.1) made → ((x : ℕ) (d : Passed) → x < blocks → Contains made (x, get_or passed x d))
        → (b : ℕ) (d : Passed) → b < blocks → IsRight times demands block b (get_or passed b d)
    all-right made passed pieces own b d lt = passed-right b (get_or passed b d) lt (All-contains (λ (p : ℕ × Passed). IsPassed times demands block puts looks p.0 p.1) made (b, get_or passed b d) pieces (own b d lt))

    pub all-known : (b : ℕ) → b < blocks → IsKnown times demands block b (get_or carries b Void)
    all-known b lt = known-of b (get_or carries b Void) lt refl
