-- What a sink has of a text. In each lemma a and b are the sink at first and at last.
use Rattle.std.proofs.Common.{◌≡◌, ◌∙◌, ap, ℕ, ◌≤◌, List, length, Option, arith}
use Rattle.std.proofs.Math.Seq.{take-length}
use Rattle.std.specs.Io.KnownBytes.{append_known}
use Rattle.mq_outside.specs.Outside.{TakesFirst}
use Rattle.mq_outside.specs.Writing.{Writes, Writing}
use Rattle.mq_outside.specs.Writing.Writing.{Whole, Part, Nothing}

module _ {S : Type 0} (taken : S → Option (List ℕ)) (sure faults : S → ℕ) (a b : S) where
  -- what is a text of one kind is one of another
  pub writes_wider : (w : Writing) (P Q : List ℕ → Type 0) → ((text : List ℕ) → P text → Q text) → Writes taken sure faults a b w P → Writes taken sure faults a b w Q
  writes_wider Whole P Q wider h = record { text = h.text; is_text = wider h.text h.is_text; gained = h.gained; quiet = h.quiet }
  writes_wider Part P Q wider h = record { text = h.text; is_text = wider h.text h.is_text; part = h.part; later = h.later; rose = h.rose; calm = h.calm }
  writes_wider Nothing P Q wider h = h

  -- the count of faults never falls
  pub writes_later : (w : Writing) (P : List ℕ → Type 0) → Writes taken sure faults a b w P → faults a ≤ faults b
  writes_later Whole P h = omega (arith, h.quiet)
  writes_later Part P h = h.later
  writes_later Nothing P h = omega (arith, ap faults h)

  -- it stays where as many bytes are sure as such a text has
  pub writes_calm : (w : Writing) (P : List ℕ → Type 0) → ((text : List ℕ) → P text → length text ≤ sure a) → Writes taken sure faults a b w P → faults b ≡ faults a
  writes_calm Whole P room h = h.quiet
  writes_calm Part P room h = h.calm (room h.text h.is_text)
  writes_calm Nothing P room h = ap faults h

  -- a text that was put whole
  pub writes_whole : (text : List ℕ) (P : List ℕ → Type 0) → P text → TakesFirst (taken a) (taken b) (sure a) (sure b) text (length text) → faults b ≡ faults a → Writes taken sure faults a b Whole P
  writes_whole text P is took still = record { text = text; is_text = is; gained = took.gained ∙ ap (append_known (taken a)) (take-length text); quiet = still }
