-- The blocks of a split: what leaves each, and what leaves all, one behind the other.
use Rattle.std.proofs.Common.{◌≡◌, ℕ, zero, suc, ◌+◌, ◌-◌, ◌*◌, ◌<◌, ◌≤◌, ◌⊎◌, inl, inr, List, [], ◌∷◌, ◌++◌, length, drop, take, map, min, Some, refl, sym, ap, ◌∙◌, subst, arith}
use Rattle.std.specs.Prelude.{slice_get}
use Rattle.std.proofs.lemmas.Bool.{cases_lt}
use Rattle.std.proofs.lemmas.List.{drop-map, take-map}
use Rattle.std.proofs.lemmas.Option.{get_or_from_slice_get, slice_get_within}
use Rattle.mq_base.proofs.lemmas.Between.{length-between}
use Rattle.mq_base.proofs.lemmas.Lists.{get-last, get-push, get-take, some_inj}
use Rattle.mq_base.specs.Lists.{between}
use Rattle.mq_core.specs.Kinds.Split.{outputs_by}
use Rattle.mq_core.specs.declared.model.Route.{Route}
use Rattle.mq_core.specs.declared.model.Rows.{Rows}
use Rattle.mq_core.specs.declared.model.Stream.{Stream}
use Rattle.mq_core.proofs.lemmas.Picked.{picked-few}
use Rattle.mq_scan.specs.Blocks.{from_of, to_of}
use Rattle.mq_scan.specs.declared.blocks.Blocks.{Blocks}
use Rattle.mq_split.specs.Outs.{PiecesJoin, outs_from, picked_stream, piece_of}
use Rattle.mq_stations.specs.Leaving.{AreRouted}
use Rattle.mq_kinds.specs.Servers.{AreSplitBlocks, AreSplitParts, HaveParts}
use Rattle.mq_scan.proofs.lemmas.Blocks.{block-start, blocks-few, last-end}

-- Parts of a list.
get-drop : {X : Type 0} (xs : List X) (n k : ℕ) → slice_get (drop n xs) k ≡ slice_get xs (n + k)
get-drop xs zero k = let e : k ≡ 0 + k = omega arith in ap (slice_get xs) e
get-drop [] (suc n) k = refl
get-drop (x ∷ xs) (suc n) k = let e : suc (n + k) ≡ suc n + k = omega arith in get-drop xs n k ∙ ap (slice_get (x ∷ xs)) e

-- what is told of all jobs is told of those at these indices
pub told-between : (rows : Rows) (route : Route) (jobs : List ℕ) (from to : ℕ) → AreRouted rows route jobs → AreRouted rows route (between from to jobs)
told-between rows route jobs from to told k job e = told (from + k) job (sym (get-drop jobs from k) ∙ (get-take (drop from jobs) (to - from) k job e).1)

pub map-between : {X Y : Type 0} (f : X → Y) (xs : List X) (from to : ℕ) → map f (between from to xs) ≡ between from to (map f xs)
map-between f xs from to = sym (ap (take (to - from)) (drop-map f from xs) ∙ take-map f (to - from) (drop from xs))

-- a stream more, where each is that of its output
pub part-more : (streams streams' : List Stream) (stream : Stream) (part : ℕ → Stream) (n : ℕ) → length streams ≡ n → streams' ≡ streams ++ stream ∷ [] → stream ≡ part n → ((k : ℕ) → k < n → slice_get streams k ≡ Some (part k)) → (k : ℕ) → k < n + 1 → slice_get streams' k ≡ Some (part k)
part-more streams streams' stream part n count p e h k l = ap (λ (s : List Stream). slice_get s k) p ∙ go (cases_lt k n)
  where
    go : (k < n) ⊎ (n ≤ k) → slice_get (streams ++ stream ∷ []) k ≡ Some (part k)
    go (inl less) = get-push streams stream k (omega arith) ∙ h k less
    go (inr more) =
        let at : k ≡ length streams = omega arith in
        let same : n ≡ k = omega arith in
        ap (slice_get (streams ++ stream ∷ [])) at ∙ (get-last streams stream ∙ ap Some (e ∙ ap part same))

-- Blocks. Their first index, and the one behind their last.
pub block-order : (blocks : Blocks) (b : ℕ) → b < blocks.blocks → (from_of blocks b ≤ to_of blocks b) × (to_of blocks b ≤ blocks.n)
block-order blocks b l =
    let inside = block-start blocks b l in
    let next : (b + 1) * blocks.block ≡ b * blocks.block + blocks.block = omega arith in
    (omega arith, omega arith)

-- indices from one up to another, which is at most this
pub record IsWithin (from to most : ℕ) : Type 0 where
  pub order : from ≤ to
  pub within : to ≤ most

pub is-within : (blocks : Blocks) (b from to most : ℕ) → b < blocks.blocks → from ≡ from_of blocks b → to ≡ to_of blocks b → blocks.n ≡ most → IsWithin from to most
is-within blocks b from to most l f t n =
    let order = block-order blocks b l in
    record {
      order = (let o = order.0 in omega arith);
      within = (let o = order.1 in omega arith);
    }

-- what leaves a block
pub block-parts : (route : Route) (arrivals : Stream) (values : List ℕ) (blocks : Blocks) (group : List (List Stream)) (b : ℕ) (streams : List Stream) → AreSplitBlocks route arrivals values blocks group → slice_get group b ≡ Some streams → AreSplitParts route arrivals values blocks b streams
block-parts route arrivals values blocks group b streams h e =
    subst (AreSplitParts route arrivals values blocks b) (get_or_from_slice_get group b streams streams e) (h.each b streams (slice_get_within group b streams e))

pub blocks-short : (route : Route) (arrivals : Stream) (values : List ℕ) (blocks : Blocks) (group : List (List Stream)) → AreSplitBlocks route arrivals values blocks group → length group ≤ 1048576
blocks-short route arrivals values blocks group h =
    let most = blocks-few blocks in
    let few = h.few in
    let all = h.all in
    let len = h.len in
    omega arith

pub have-parts : (route : Route) (arrivals : Stream) (values : List ℕ) (blocks : Blocks) (group : List (List Stream)) (out : ℕ) → out < outputs_by route → AreSplitBlocks route arrivals values blocks group → HaveParts out group
have-parts route arrivals values blocks group out l h b streams e =
    let own = block-parts route arrivals values blocks group b streams h e in
    let len = h.len in
    let all = h.all in
    let few = h.few in
    let valued = h.valued.jobs in
    let inside = slice_get_within group b streams e in
    let order = block-order blocks b (omega arith) in
    let from = from_of blocks b in
    let to = to_of blocks b in
    let before : from ≤ to = order.0 in
    let behind : to ≤ length arrivals.job = (let k = order.1 in omega arith) in
    let part = piece_of route arrivals values from to out in
    let most = picked-few out (outs_from route from (between from to values)) (between from to arrivals.job) in
    let many = length-between arrivals.job from to before behind in
    (part, own.parts out l, omega arith)

-- what leaves by an output is so far that of these blocks
abbrev pub IsBehind : ℕ → List (List Stream) → ℕ → List ℕ → List ℕ → Type 0
IsBehind out group b jobs times =
    (route : Route) (arrivals : Stream) (values : List ℕ) (blocks : Blocks) → out < outputs_by route → AreSplitBlocks route arrivals values blocks group → record { job = jobs; time = times } ≡ piece_of route arrivals values 0 (min (b * blocks.block) blocks.n) out

pub behind-begins : (out : ℕ) (group : List (List Stream)) → IsBehind out group 0 [] []
behind-begins out group route arrivals values blocks l h =
    let none : min (0 * blocks.block) blocks.n ≡ 0 = omega arith in
    ap (λ n. piece_of route arrivals values 0 n out) (sym none)

pub behind-more : PiecesJoin → (out : ℕ) (group : List (List Stream)) (b : ℕ) (streams : List Stream) (part : Stream) (jobs times jobs' times' : List ℕ) → slice_get group b ≡ Some streams → slice_get streams out ≡ Some part → jobs' ≡ jobs ++ part.job → times' ≡ times ++ part.time → IsBehind out group b jobs times → IsBehind out group (b + 1) jobs' times'
behind-more law out group b streams part jobs times jobs' times' e f j t was route arrivals values blocks l h =
    let len = h.len in
    let all = h.all in
    let inside = slice_get_within group b streams e in
    let within = block-start blocks b (omega arith) in
    let from = from_of blocks b in
    let to = to_of blocks b in
    let start : min (b * blocks.block) blocks.n ≡ from = omega arith in
    let next : (b + 1) * blocks.block ≡ b * blocks.block + blocks.block = omega arith in
    let order : from ≤ to = omega arith in
    let ends : to ≤ length values = omega arith in
    let own : part ≡ piece_of route arrivals values from to out = some_inj _ _ (sym f ∙ (block-parts route arrivals values blocks group b streams h e).parts out l) in
    let before : record { job = jobs; time = times } ≡ piece_of route arrivals values 0 from out = was route arrivals values blocks l h ∙ ap (λ n. piece_of route arrivals values 0 n out) start in
    (λ k. record { job = j k; time = t k }) ∙ ((λ k. record { job = (before k).job ++ (own k).job; time = (before k).time ++ (own k).time }) ∙ law.join route arrivals values h.valued 0 from to out (omega arith) order ends)

pub behind-ends : PiecesJoin → (out : ℕ) (group : List (List Stream)) (b : ℕ) (stream : Stream) → length group ≤ b → b ≤ length group → IsBehind out group b stream.job stream.time →
    (route : Route) (arrivals : Stream) (values : List ℕ) (blocks : Blocks) → out < outputs_by route → AreSplitBlocks route arrivals values blocks group → stream ≡ picked_stream (outs_from route 0 values) arrivals out
behind-ends law out group b stream more less was route arrivals values blocks l h =
    let len = h.len in
    let ends : min (b * blocks.block) blocks.n ≡ length values = last-end blocks b (omega arith) ∙ h.all in
    was route arrivals values blocks l h ∙ (ap (λ n. piece_of route arrivals values 0 n out) ends ∙ law.whole route arrivals values h.valued out)
