-- That the visits to a join that haven't left are those that have an entry.
use Rattle.mq_base.proofs.lemmas.Lists.{get-none, get-some}
use Rattle.mq_base.proofs.lemmas.Each.{Each-get}
use Rattle.mq_core.specs.Event.{Event}
use Rattle.std.proofs.Common.{List, ap, arith, false, length, refl, subst, sym, true, ℕ, ◌<◌, ◌∙◌, ◌≡◌, ◌≤◌, ◌⊎◌, inl, inr}
use Rattle.std.proofs.lemmas.Bool.{cases_lt}
use Rattle.std.proofs.lemmas.Bool.Decides.{nat_tests}
use Rattle.std.specs.Prelude.{count_by, filter, is_none, nat_le, slice_get, take}
use Rattle.mq_core.specs.Fates.{HeldAreEntries}
use Rattle.mq_core.specs.Kinds.Join.{has_entry, is_of, joined_exit}
use Rattle.mq_core.specs.Laws.{is_finish_at}
use Rattle.mq_core.specs.Local.{Local}
use Rattle.mq_core.specs.Machine.{Emission, State, Visit, after, opened}
use Rattle.mq_core.specs.OnTime.{standard-on_time}
use Rattle.mq_core.specs.Run.{starts}
use Rattle.mq_core.specs.StandardTable.{standard}
use Rattle.mq_core.specs.Wiring.{reader_from}
use Rattle.mq_core.specs.declared.model.Kind.{Kind}
use Rattle.mq_core.proofs.EachKind.Facts.{kind_fact, node_fact, standard-keeps}
use Rattle.mq_core.proofs.Events.Kept.{kept}
use Rattle.mq_core.proofs.Join.HeldEntries.{entry-stays}
use Rattle.mq_core.proofs.Join.JoinLaws.{Joined}
use Rattle.mq_core.proofs.Join.Joinings.{of_row}
use Rattle.mq_core.proofs.Networks.Whole.{starts-begin}
use Rattle.mq_core.proofs.Networks.Wired.{feeds_forward}

-- who stands behind all that left hasn't left
behind-all : (ms : List Emission) (i : ℕ) → nat_le (length ms) i ≡ is_none (slice_get ms i)
behind-all ms i = go (cases_lt i (length ms))
  where
    below : (a b : ℕ) → b < a → nat_le a b ≡ false
    below a b l = grind (arith, nat_tests)

    above : (a b : ℕ) → a ≤ b → nat_le a b ≡ true
    above a b l = grind (arith, nat_tests)

    go : (i < length ms) ⊎ (length ms ≤ i) → nat_le (length ms) i ≡ is_none (slice_get ms i)
    go (inl l) = let m = get-some ms i l in below (length ms) i l ∙ sym (ap (is_none) m.1)
    go (inr l) = above (length ms) i l ∙ sym (ap (is_none) (get-none ms i l))

held-entry : (ports : ℕ) (visits : List Visit) (held : List (ℕ × ℕ)) (emitted : List Emission) (fs : List Event) (p : ℕ) → Joined ports visits held emitted fs → p < length visits → has_entry p held ≡ is_none (joined_exit visits emitted p (slice_get visits p))
held-entry ports visits held emitted fs p h l =
    let x = get-some visits p l in
    entry-stays ports visits held emitted p x.0 x.1 (Each-get (λ (v : Visit). v.port < ports) visits p x.0 h.ported x.1) h.entered
    ∙ (behind-all (of_row (x.0).job emitted) (count_by (is_of (x.0).job (x.0).port) (take p visits)) ∙ ap (λ o. is_none (joined_exit visits emitted p o)) (sym x.1))

pub held-are-entries : HeldAreEntries
held-are-entries plan rows count v position node here join inside =
    held-entry (length node.inputs) (s.stations v).visits (s.stations v).local.held (s.stations v).emitted (filter (is_finish_at v) s.pending) position
    (subst (λ (kind : Kind). kind_fact rows (length node.inputs) kind v (s.stations v) (filter (is_finish_at v) s.pending) s.clock) join
    (subst (λ o. node_fact rows o v (s.stations v) (filter (is_finish_at v) s.pending) s.clock) here
    (kept (standard plan rows) (λ u. node_fact rows (slice_get plan.net.nodes u) u) (standard-keeps plan rows (reader_from 0 plan.net.nodes) refl) (standard-on_time plan rows) (feeds_forward plan (standard plan rows) refl refl) (starts rows) (starts-begin (standard plan rows) 0 rows.source rows.time) count v)))
    inside
  where
    s : State Local
    s = after count (standard plan rows) (opened (standard plan rows) (starts rows))
