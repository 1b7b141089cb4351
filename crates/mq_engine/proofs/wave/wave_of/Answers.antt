use Rattle.std.proofs.Common.{ℕ, List, ◌++◌, length, ap, subst, sym, arith}
use Rattle.std.specs.Prelude.{Contains}
use Rattle.std.specs.List.Sorted.{IsPermutation}
use Rattle.std.proofs.lemmas.Result.{IfOk-weaker}
use Rattle.mq_engine.proofs.Parting.{appended-given, is-side, long-ready, other-ready, sides-few}
use Rattle.mq_engine.proofs.wave.wave_of.Goals as goal

pub overflow_cast-len : goal.overflow_cast-len
overflow_cast-len g c =
    let sides = c.in_ok-sides.sides in
    let few = sides-few sides.long.items sides.others.items c.args.arriving.now.ready.now c.in_ok-sides.ensures c.requires.few in
    let many = few.0 in
    let len = c.len.ensures in
    omega arith

pub side_by_side-first-requires-clause-long : goal.side_by_side-first-requires-clause-long
side_by_side-first-requires-clause-long g c κs within =
    let s = c.args.arriving.now in
    let sides = c.in_ok-sides.sides in
    let few = sides-few sides.long.items sides.others.items s.ready.now c.in_ok-sides.ensures c.requires.few in
    let many = few.0 in
    let same = ap length c.deref.ensures.value in
    is-side s c.deref.result c.requires.wave
    (λ v h. long-ready sides.long.items sides.others.items s.ready.now c.in_ok-sides.ensures v (subst (λ l. Contains l v) c.deref.ensures.value h)) (omega arith)

pub side_by_side-first-requires-clause-others : goal.side_by_side-first-requires-clause-others
side_by_side-first-requires-clause-others g c κs within =
    let s = c.args.arriving.now in
    let sides = c.in_ok-sides.sides in
    let few = sides-few sides.long.items sides.others.items s.ready.now c.in_ok-sides.ensures c.requires.few in
    let many = few.1 in
    let same = ap length c.deref-2.ensures.value in
    is-side s c.deref-2.result c.requires.wave
    (λ v h. other-ready sides.long.items sides.others.items s.ready.now c.in_ok-sides.ensures v (subst (λ l. Contains l v) c.deref-2.ensures.value h)) (omega arith)

pub returns-clause-len : goal.returns-clause-len
returns-clause-len g c =
    let s = c.args.arriving.now in
    let parted = subst (λ (z : List ℕ × List ℕ). IsPermutation (z.0 ++ z.1) s.ready.now) (λ k. (sym c.deref.ensures.value k, sym c.deref-2.ensures.value k)) c.in_ok-sides.ensures in
    IfOk-weaker c.appended.result _ _ (λ results given. given.len)
    (appended-given c.args.keep s c.deref.result c.deref-2.result c.side_by_side-first.result.0 c.side_by_side-first.result.1 c.appended.result parted c.side_by_side-first.ensures.long c.side_by_side-first.ensures.others c.appended.ensures)

pub returns-clause-known : goal.returns-clause-known
returns-clause-known g c =
    let s = c.args.arriving.now in
    let parted = subst (λ (z : List ℕ × List ℕ). IsPermutation (z.0 ++ z.1) s.ready.now) (λ k. (sym c.deref.ensures.value k, sym c.deref-2.ensures.value k)) c.in_ok-sides.ensures in
    IfOk-weaker c.appended.result _ _ (λ results given. given.known)
    (appended-given c.args.keep s c.deref.result c.deref-2.result c.side_by_side-first.result.0 c.side_by_side-first.result.1 c.appended.result parted c.side_by_side-first.ensures.long c.side_by_side-first.ensures.others c.appended.ensures)
