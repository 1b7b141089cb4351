-- The pieces of keeping: those by its form, and after them the copies of what came.
use Rattle.std.proofs.Common.{◌≡◌, ℕ, suc, ◌≤◌, List, [], ◌∷◌, ◌++◌, length, Some, ◌∙◌, refl, ap, subst, arith, length-append}
use Rattle.std.specs.Prelude.{slice_get}
use Rattle.mq_core.specs.declared.model.Plan.{Plan}
use Rattle.mq_core.specs.declared.model.Rows.{Rows}
use Rattle.mq_core.specs.declared.model.Stream.{Stream}
use Rattle.mq_crew.specs.Crew.{AreAll}
use Rattle.mq_crew.proofs.lemmas.Groups.{all-last}
use Rattle.mq_merge.specs.Borrowed.{stream_in}
use Rattle.mq_merge.specs.declared.arrivals.Arrivals.{Arrivals}
use Rattle.mq_merge.specs.declared.arrivals.Arrivals.TheVariants.{Merged, Read}
use Rattle.mq_kinds.specs.declared.pieces.Piece.{Piece}
use Rattle.mq_exits.specs.Keeping.{IsKeepingAt, IsKeepingOf, IsKeepingPiece, IsOwnPiece, copies_of, copy_pieces, keeping_size, own_size}
use Rattle.mq_exits.specs.declared.keeping.Keeping.{Keeping}
use Rattle.mq_exits.specs.declared.keeping.Keeping.TheVariants.{InTurn, Overtaking, Passing, Settled}
use Rattle.mq_exits.specs.declared.load.Held.{Held}

-- they are few
copies-few : (arrivals : Arrivals) → copies_of arrivals ≤ 2
copies-few (Merged stream) = omega arith
copies-few (Read stream) = omega arith

own-few : (plan : Plan) (rows : Rows) (v : ℕ) (arrivals : Stream) (keeping : Keeping) → IsKeepingAt plan rows v arrivals keeping → own_size keeping ≤ 16384
own-few plan rows v arrivals (InTurn departs) h = omega arith
own-few plan rows v arrivals (Overtaking overtaken) h = let few = h.counted.blocks.1 in omega arith
own-few plan rows v arrivals (Settled settled) h = omega arith
own-few plan rows v arrivals (Passing streams) h = omega arith

pub keeping-few : (held : Held) (keeping : Keeping) → IsKeepingOf held keeping → keeping_size held.arrivals keeping ≤ 16386
keeping-few held keeping h =
    let own = own-few held.plan.now held.rows.now held.number (stream_in held.arrivals) keeping h in
    let copied = copies-few held.arrivals in
    omega arith

-- where nothing is copied, they are those by the form
pub all-own : (plan : Plan) (rows : Rows) (v : ℕ) (arrivals : Arrivals) (keeping : Keeping) (n : ℕ) (made : List Piece) → n ≡ own_size keeping → AreAll (IsKeepingPiece plan rows v arrivals keeping) n made → AreAll (IsOwnPiece plan rows v (stream_in arrivals) keeping) (own_size keeping) made
all-own plan rows v arrivals keeping n made e all = record { len = all.len ∙ e; each = λ b d l. (all.each b d (omega arith)).own l }

-- else two follow them
pub two-behind : (plan : Plan) (rows : Rows) (v : ℕ) (arrivals : Arrivals) (keeping : Keeping) (made : List Piece) → copies_of arrivals ≡ 2 → AreAll (IsKeepingPiece plan rows v arrivals keeping) (keeping_size arrivals keeping) made → 2 ≤ length made
two-behind plan rows v arrivals keeping made two all = let count = all.len in omega arith

pub one-behind : (made more : List Piece) (time : Piece) → 2 ≤ length made → made ≡ more ++ time ∷ [] → 1 ≤ length more
one-behind made more time two e =
    let a = length-append more (time ∷ []) in
    let b = ap length e in
    omega arith

-- the last is a copy of the times
pub last-time : (plan : Plan) (rows : Rows) (v : ℕ) (arrivals : Arrivals) (keeping : Keeping) (made more : List Piece) (time : Piece) → copies_of arrivals ≡ 2 → made ≡ more ++ time ∷ [] → AreAll (IsKeepingPiece plan rows v arrivals keeping) (keeping_size arrivals keeping) made →
    (slice_get (copy_pieces (stream_in arrivals)) 1 ≡ Some time) × AreAll (IsKeepingPiece plan rows v arrivals keeping) (suc (own_size keeping)) more
last-time plan rows v arrivals keeping made more time two e all =
    let is = IsKeepingPiece plan rows v arrivals keeping in
    let n = own_size keeping in
    let count : keeping_size arrivals keeping ≡ suc (suc n) = omega arith in
    let one = all-last is (suc n) made more time e (subst (λ m. AreAll is m made) count all) in
    (one.0.copy 1 (omega arith), one.1)

-- the one before it of the jobs
pub last-job : (plan : Plan) (rows : Rows) (v : ℕ) (arrivals : Arrivals) (keeping : Keeping) (more rest : List Piece) (job : Piece) → more ≡ rest ++ job ∷ [] → AreAll (IsKeepingPiece plan rows v arrivals keeping) (suc (own_size keeping)) more →
    (slice_get (copy_pieces (stream_in arrivals)) 0 ≡ Some job) × AreAll (IsOwnPiece plan rows v (stream_in arrivals) keeping) (own_size keeping) rest
last-job plan rows v arrivals keeping more rest job e all =
    let is = IsKeepingPiece plan rows v arrivals keeping in
    let n = own_size keeping in
    let other = all-last is n more rest job e all in
    (other.0.copy 0 (omega arith), all-own plan rows v arrivals keeping n rest refl other.1)
