use Rattle.std.proofs.Common.{◌≡◌, ℕ, ◌+◌, ◌<◌, ◌≤◌, List, ◌++◌, cond, get_or, length, length-append, ap, refl, ◌∙◌, arith}
use Rattle.std.specs.Prelude.{◌==◌}
use Rattle.std.proofs.lemmas.List.Sums.{count_by-le-length, sum_by-append}
use Rattle.mq_base.proofs.lemmas.Each.{Each-append, Each-weaker}
use Rattle.mq_base.proofs.lemmas.Lists.{written-back}
use Rattle.mq_stats.specs.WaitCounts.{AreWaitCounts}
use Rattle.mq_stats.specs.declared.wait_counts.WaitCounts.{WaitCounts}
use Rattle.mq_stats.proofs.wait_counts.counts_added.Goals as goal

-- no count is more than all
few : (waits : List ℕ) (counts : WaitCounts) → AreWaitCounts waits counts → (at : ℕ) → get_or counts.counts at 0 ≤ counts.many
few waits counts h at = omega (arith, h.many, h.each at, count_by-le-length (λ w. w == at) waits)

-- the counts of both, where each is a sum
sums : (waits more : List ℕ) (before after both : WaitCounts) → before.many + after.many ≤ 1048576 → both.many ≡ before.many + after.many → 1 < length both.counts → length both.counts ≤ 1048578
    → length before.counts ≤ length both.counts → length after.counts ≤ length both.counts → ((at : ℕ) → get_or both.counts at 0 ≡ get_or before.counts at 0 + get_or after.counts at 0) → AreWaitCounts waits before → AreWaitCounts more after
    → AreWaitCounts (waits ++ more) both
sums waits more before after both small many some room first_fits second_fits each h k =
    let first : before.many ≡ length waits = h.many in
    let second : after.many ≡ length more = k.many in
    record {
      many = omega (arith, length-append waits more);
      few = omega arith;
      some = some;
      room = room;
      each = λ wait. omega (arith, each wait, h.each wait, k.each wait, sum_by-append (λ w. cond (w == wait) 1 0) waits more);
      own = Each-append (λ w. w + 1 < length both.counts) waits more
          (Each-weaker (λ w. w + 1 < length before.counts) (λ w. w + 1 < length both.counts) (λ w l. omega arith) waits h.own)
          (Each-weaker (λ w. w + 1 < length after.counts) (λ w. w + 1 < length both.counts) (λ w l. omega arith) more k.own);
    }

pub with_room-requires : goal.with_room-requires
with_room-requires c = record { small = λ at. omega (arith, few c.requires.before.0 c.args.before c.requires.before.1 at, c.requires.few) }

pub add_each-requires-clause-room : goal.add_each-requires-clause-room
add_each-requires-clause-room c = omega (arith, c.in_ok-counts.ensures.room.1, c.len.ensures, ap length c.as_slice.ensures, ap length c.as_mut_slice.ensures.value)

pub add_each-requires-clause-small : goal.add_each-requires-clause-small
add_each-requires-clause-small c = λ at.
    omega (arith, few c.requires.before.0 c.args.before c.requires.before.1 at, few c.requires.after.0 c.args.after.now c.requires.after.1 at, c.requires.few, c.in_ok-counts.ensures.same at, ap (λ l. get_or l at 0) c.as_slice.ensures, ap (λ l. get_or l at 0) c.as_mut_slice.ensures.value)

pub returns : goal.returns
returns c waits more h k =
    let new = c.add_each.new.counts in
    let is : c.from_vec.result ≡ new = c.from_vec.ensures ∙ written-back new _ _ (c.add_each.ensures.room ∙ c.as_mut_slice.ensures.len) in
    let long = ap length is ∙ c.add_each.ensures.room ∙ ap length c.as_mut_slice.ensures.value in
    let least = c.in_ok-counts.ensures.room.0 in
    let most = c.in_ok-counts.ensures.most 1048578 h.room (omega (arith, k.room, c.len.ensures)) in
    let some = h.some in
    let second = c.in_ok-counts.ensures.room.1 in
    sums waits more c.args.before c.args.after.now _ c.requires.few refl (omega arith) (omega arith) (omega arith) (omega (arith, c.len.ensures))
    (λ at. ap (λ l. get_or l at 0) is ∙ c.add_each.ensures.sums at ∙ ap (λ l. get_or l at 0 + get_or c.as_slice.result.now at 0) c.as_mut_slice.ensures.value ∙ ap (λ n. n + get_or c.as_slice.result.now at 0) (c.in_ok-counts.ensures.same at) ∙ ap (λ l. get_or c.args.before.counts at 0 + get_or l at 0) c.as_slice.ensures) h k
