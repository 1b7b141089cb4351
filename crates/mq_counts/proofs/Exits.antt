-- What leaves nodes, output by output and piece by piece.
use Rattle.std.proofs.Common.{◌≡◌, ℕ, ◌+◌, ◌*◌, ◌^◌, ◌<◌, ◌≤◌, ◌++◌, Bool, false, List, [], ◌∷◌, Some, length, length-append, max, refl, sym, subst, ap, ◌∙◌, arith}
use Rattle.std.specs.Prelude.{slice_get, ◌-◌}
use Rattle.std.specs.List.{AllByRecursion as Each}
use Rattle.std.proofs.Math.Nat.{le-max_left, le-max_right}
use Rattle.std.proofs.lemmas.Option.{slice_get_within}
use Rattle.mq_base.proofs.lemmas.Between.{length-between}
use Rattle.mq_base.proofs.lemmas.Each.{Each-append}
use Rattle.mq_base.proofs.lemmas.Lists.{get-some, some_inj}
use Rattle.mq_core.specs.Sequences.{sequence_exit}
use Rattle.mq_core.specs.declared.model.Node.{Node}
use Rattle.mq_core.specs.declared.model.Rows.{Rows}
use Rattle.mq_core.specs.declared.model.Stream.{Stream}
use Rattle.mq_crew.specs.Crew.{total_size}
use Rattle.mq_counts.proofs.Lists.{among-all, each-has, pushed-at}
use Rattle.mq_counts.proofs.Pieces.{few-pieces, pieces-all}
use Rattle.mq_counts.specs.Counts.{AreExits, is_read}
use Rattle.mq_counts.specs.Leaving.{AreExitsAt, AreNodeStreams, AreStreams, AreStreamsIn, IsExitAt, IsExitIn, exit_pieces}
use Rattle.mq_counts.specs.Seen.{streams_in}
use Rattle.mq_counts.specs.Totals.{start_of}
use Rattle.mq_counts.specs.declared.counts.NodeSequences.{NodeSequences}
use Rattle.mq_counts.specs.declared.leaving.NodeStreams.{NodeStreams}
use Rattle.mq_stats.specs.Exits.{ExitsJoin, IsExitOf, stream_between}
use Rattle.mq_stats.specs.Numbers.{AreLeaving}
use Rattle.mq_stats.specs.declared.exits.Exit.{Exit}

-- Outputs. Those of which it is known so far whether some input reads them; no stream of the others is longer than this.
pub record AreReadTo (nodes : List Node) (v : ℕ) (streams : List Stream) (count : ℕ) (read : List Bool) (most : ℕ) : Type 0 where
  pub len : length read ≡ count
  pub few : most ≤ 1048576
  pub each : (out : ℕ) (flag : Bool) → slice_get read out ≡ Some flag → (flag ≡ is_read nodes v out) × ((stream : Stream) → slice_get streams out ≡ Some stream → flag ≡ false → length stream.job ≤ most)

pub read-more : (nodes : List Node) (v : ℕ) (streams : List Stream) (out : ℕ) (read read' : List Bool) (most told most' : ℕ) (flag : Bool) → AreReadTo nodes v streams out read most →
    flag ≡ is_read nodes v out → ((stream : Stream) → slice_get streams out ≡ Some stream → flag ≡ false → told ≡ length stream.job) → told ≤ 1048576 → most' ≡ max most told → read' ≡ read ++ flag ∷ [] → AreReadTo nodes v streams (out + 1) read' most'
read-more nodes v streams out read read' most told most' flag so_far is all few greater grown =
    let one = length-append read (flag ∷ []) in
    let len = so_far.len in
    let longer = ap length grown in
    let low = so_far.few in
    let left = le-max_left most told in
    let right = le-max_right most told in
    record {
      len = omega arith;
      few = omega arith;
      each = pushed-at (λ o (x : Bool). (x ≡ is_read nodes v o) × ((s : Stream) → slice_get streams o ≡ Some s → x ≡ false → length s.job ≤ most')) out read read' flag so_far.len
          (λ o x there. ((so_far.each o x there).0, λ s at free. let before = (so_far.each o x there).1 s at free in omega arith))
          (is, λ s at free. let same = all s at free in omega arith) grown;
    }

pub streams-fit : (nodes : List Node) (v out : ℕ) (its : NodeStreams) → AreReadTo nodes v (streams_in its.streams) out its.read its.most → out ≡ length (streams_in its.streams) → Each (AreLeaving its.rows.now) (streams_in its.streams) → AreStreams its
streams-fit nodes v out its so_far e leaving = record {
  leaving = leaving;
  even = so_far.len ∙ e;
  few = so_far.few;
  within = λ o stream here free. (so_far.each o false free).1 stream here refl;
}

pub streams-are : (nodes : List Node) (rows : Rows) (sequences : NodeSequences) (out : ℕ) (its : NodeStreams) → AreReadTo nodes sequences.number (streams_in sequences.streams) out its.read its.most → out ≡ length (streams_in sequences.streams) →
    its.rows.now ≡ rows → streams_in its.streams ≡ streams_in sequences.streams → AreStreamsIn nodes rows sequences its
streams-are nodes rows sequences out its so_far e table streams = record {
  table = table;
  streams = streams;
  read = λ o inside. let len = so_far.len in let flag = get-some its.read o (omega arith) in flag.1 ∙ ap Some (so_far.each o flag.0 flag.1).0;
}

-- Nodes. One more.
pub streams-more : (nodes : List Node) (rows : Rows) (all : List NodeSequences) (i : ℕ) (streams streams' : List NodeStreams) (sequences : NodeSequences) (its : NodeStreams) → AreNodeStreams nodes rows all i streams → slice_get all i ≡ Some sequences → AreStreams its → AreStreamsIn nodes rows sequences its →
    streams' ≡ streams ++ its ∷ [] → AreNodeStreams nodes rows all (i + 1) streams'
streams-more nodes rows all i streams streams' sequences its so_far here fit are grown =
    let one = length-append streams (its ∷ []) in
    let len = so_far.len in
    let longer = ap length grown in
    record {
      len = omega arith;
      fit = subst (Each AreStreams) (sym grown) (Each-append AreStreams streams (its ∷ []) so_far.fit (fit, tt));
      each = pushed-at (λ j (x : NodeStreams). (e : NodeSequences) → slice_get all j ≡ Some e → AreStreamsIn nodes rows e x) i streams streams' its so_far.len so_far.each
          (λ e there. subst (λ (x : NodeSequences). AreStreamsIn nodes rows x its) (some_inj sequences e (sym here ∙ there)) are) grown;
    }

-- few jobs make few pieces
pub few-exit-pieces : (node : NodeStreams) → AreStreams node → exit_pieces node ≤ 128
few-exit-pieces node fit = few-pieces 16384 node.most (omega arith) (omega arith) fit.few

pieces-few : (all : List NodeStreams) → Each AreStreams all → total_size exit_pieces all ≤ length all * 128
pieces-few [] h = omega arith
pieces-few (node ∷ all) h =
    let rest = pieces-few all h.1 in
    let one = few-exit-pieces node h.0 in
    omega arith

pub exits-few : (all : List NodeStreams) → Each AreStreams all → length all < 2 ^ 16 → total_size exit_pieces all < 2 ^ 32
exits-few all h few = let most = pieces-few all h in omega arith

-- Pieces. What leaves by an output in those before an index.
abbrev pub IsExitBefore : NodeStreams → ℕ → ℕ → Exit → Type 0
IsExitBefore node out b exit =
    (stream : Stream) → slice_get (streams_in node.streams) out ≡ Some stream → slice_get node.read out ≡ Some false → IsExitOf node.rows.now (stream_between 0 (start_of 16384 (length stream.job) b) stream) exit

pub exit-before-more : ExitsJoin → (node : NodeStreams) (out b : ℕ) (sum piece sum' : Exit) → AreStreams node → IsExitBefore node out b sum → IsExitIn node b out piece → sum'.count ≡ sum.count + piece.count → sum'.sojourn ≡ sum.sojourn + piece.sojourn → IsExitBefore node out (b + 1) sum'
exit-before-more law node out b sum piece sum' fit before its count sojourn stream here free =
    let jobs = length stream.job in
    let first : 0 ≤ start_of 16384 jobs b = omega arith in
    let rises : start_of 16384 jobs b ≤ start_of 16384 jobs (b + 1) = omega arith in
    let within : start_of 16384 jobs (b + 1) ≤ jobs = omega arith in
    law.join node.rows.now stream (each-has (AreLeaving node.rows.now) (streams_in node.streams) out stream fit.leaving here) 0 (start_of 16384 jobs b) (start_of 16384 jobs (b + 1)) first rises within sum piece sum' (before stream here free) (its stream here free) count sojourn

-- together they are no more jobs than leave
pub exits-are-few : (node : NodeStreams) (out b : ℕ) (sum piece : Exit) → AreStreams node → out < length (streams_in node.streams) → slice_get node.read out ≡ Some false → IsExitBefore node out b sum → IsExitIn node b out piece → sum.count + piece.count ≤ 1048576
exits-are-few node out b sum piece fit inside free before its =
    let stream = get-some (streams_in node.streams) out inside in
    let jobs = stream.0.job in
    let leaving = each-has (AreLeaving node.rows.now) (streams_in node.streams) out stream.0 fit.leaving stream.1 in
    let few = leaving.few in
    let rises : start_of 16384 (length jobs) b ≤ start_of 16384 (length jobs) (b + 1) = omega arith in
    let within : start_of 16384 (length jobs) (b + 1) ≤ length jobs = omega arith in
    let came : sum.count ≡ start_of 16384 (length jobs) b - 0 = ap (λ (t : ℕ × ℕ). t.0) (before stream.0 stream.1 free).told ∙ length-between jobs 0 (start_of 16384 (length jobs) b) (omega arith) (omega arith) in
    let more : piece.count ≡ start_of 16384 (length jobs) (b + 1) - start_of 16384 (length jobs) b = ap (λ (t : ℕ × ℕ). t.0) (its stream.0 stream.1 free).told ∙ length-between jobs (start_of 16384 (length jobs) b) (start_of 16384 (length jobs) (b + 1)) rises within in
    omega arith

-- and their sums are small
pub exit-is-small : (node : NodeStreams) (out b : ℕ) (sum piece : Exit) → out < length (streams_in node.streams) → slice_get node.read out ≡ Some false → IsExitBefore node out b sum → IsExitIn node b out piece → (sum.sojourn ≤ sum.count * 2 ^ 64) × (piece.sojourn ≤ piece.count * 2 ^ 64)
exit-is-small node out b sum piece inside free before its =
    let stream = get-some (streams_in node.streams) out inside in
    ((before stream.0 stream.1 free).small, (its stream.0 stream.1 free).small)

-- the pieces of the longest stream are all of each
pub exit-all : ExitsJoin → (node : NodeStreams) (out b : ℕ) (sum : Exit) → AreStreams node → b ≡ exit_pieces node → IsExitBefore node out b sum → IsExitAt node out sum
exit-all law node out b sum fit e before stream here free =
    let jobs = length stream.job in
    let most = pieces-all 16384 node.most (omega arith) in
    let within = fit.within out stream here free in
    let end : start_of 16384 jobs b ≡ jobs = ap (start_of 16384 jobs) e ∙ (omega arith) in
    (before stream here free).told ∙ ap (sequence_exit node.rows.now)
    (ap (λ n. stream_between 0 n stream) end ∙ law.whole node.rows.now stream (each-has (AreLeaving node.rows.now) (streams_in node.streams) out stream fit.leaving here))

-- what leaves a node by each output
pub exits-told : (nodes : List Node) (rows : Rows) (sequences : NodeSequences) (its : NodeStreams) (exits : List Exit) → AreStreamsIn nodes rows sequences its → AreExitsAt its exits → AreExits nodes rows sequences.number (streams_in sequences.streams) exits
exits-told nodes rows sequences its exits are told = record {
  len = told.len ∙ ap length are.streams;
  each = λ out stream exit there here free.
      let inside = slice_get_within (streams_in sequences.streams) out stream there in
      among-all (IsExitAt its) (length (streams_in its.streams)) exits out exit told here stream (ap (λ l. slice_get l out) are.streams ∙ there) (are.read out inside ∙ ap Some free)
      ∙ ap (λ r. sequence_exit r stream) are.table;
}
