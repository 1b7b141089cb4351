-- The lists of rows that workers put together.
use Rattle.std.proofs.Common.{◌≡◌, ◌∙◌, ap, subst, suc, ℕ, ◌+◌, ◌<◌, List, [], ◌∷◌, ◌++◌, length, get_or, arith, inl, inr, length-append}
use Rattle.std.proofs.Math.ListN.{get_or-append}
use Rattle.std.proofs.Math.Seq.{get_or-append_seam}
use Rattle.std.proofs.lemmas.Bool.{cases_lt}
use Rattle.mq_crew.proofs.lemmas.Groups.{all-last}
use Rattle.mq_crew.specs.Crew.{AreAll}
use Rattle.mq_trace.specs.Joined.{Piece, all_numbers}

-- the lists of the columns, one more
pub columns_more : (read : List Piece) (demands more : List (List ℕ)) (values : List ℕ) → more ≡ demands ++ values ∷ []
    → ((k : ℕ) → k < length demands → get_or demands k [] ≡ all_numbers (k + 1) read) → values ≡ all_numbers (length demands + 1) read
    → (k : ℕ) → k < length more → get_or more k [] ≡ all_numbers (k + 1) read
columns_more read demands more values is so here k less =
    elim (cases_lt k (length demands)) [
      | inl before ↦ ap (λ l. get_or l k []) is ∙ get_or-append demands (values ∷ []) [] k before ∙ so k before
      | inr not_before ↦
          let last : k ≡ length demands = omega (arith, ap length is, length-append demands (values ∷ [])) in
          rw last (ap (λ l. get_or l (length demands) []) is ∙ get_or-append_seam demands values [] [] ∙ here)
    ]

module _ {X : Type 0} (is : ℕ → X → Type 0) where
  -- the last of some pieces, and those before it
  pub all_last : (n : ℕ) (items rest : List X) (x : X) → items ≡ rest ++ x ∷ [] → AreAll is n items → is (length rest) x × AreAll is (length rest) rest
  all_last n items rest x e all =
      let count : n ≡ suc (length rest) = omega (arith, all.len, ap length e, length-append rest (x ∷ [])) in
      all-last is (length rest) items rest x e (subst (λ m. AreAll is m items) count all)
