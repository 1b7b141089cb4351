-- That a run has sequences, and that sequences which agree with it make the run.
use Rattle.std.proofs.Common.{◌≡◌, ◌⊎◌, inl, inr, ℕ, zero, suc, ◌+◌, ◌<◌, ◌≤◌, List, [], ◌∷◌, ◌++◌, length, Option, Some, None, sym, refl, ap, ◌∙◌, arith, slice_get, option_map, length-append}
use Rattle.std.proofs.lemmas.Bool.{cases_lt}
use Rattle.std.proofs.lemmas.Option.{slice_get_within}
use Rattle.mq_base.proofs.lemmas.Lists.{get-front, get-last}
use Rattle.mq_core.specs.Sequences.{visits_by_node, streams_by_node, streams_below}
use Rattle.mq_core.specs.Local.{Local}
use Rattle.mq_core.specs.Machine.{State}
use Rattle.mq_core.specs.Results.{visits_of, stream_from}
use Rattle.mq_core.specs.RunLaws.{RunsHaveSequences, SequencesMakeRuns, OutputsHaveStreams, StreamsMakeOutputs}
use Rattle.mq_core.specs.Sound.{outputs_in}
use Rattle.mq_core.specs.StandardTable.{run_of}
use Rattle.mq_core.specs.declared.model.Node.{Node}
use Rattle.mq_core.specs.declared.model.Stream.{Stream}
use Rattle.mq_core.specs.declared.model.Visits.{Visits}
use Rattle.mq_core.proofs.Sequences.NumberRefusals.{sequences-of_node}

-- two lists of one length that agree at each index of the second
same-indices : {X : Type 0} (xs ys : List X) → length xs ≡ length ys → ((i : ℕ) (y : X) → slice_get ys i ≡ Some y → slice_get xs i ≡ Some y) → xs ≡ ys
same-indices [] [] long h = refl
same-indices [] (y ∷ ys) long h = absurd (omega arith)
same-indices (x ∷ xs) [] long h = absurd (omega arith)
same-indices (x ∷ xs) (y ∷ ys) long h =
    let first = h 0 y refl in
    let same : x ≡ y = cc in
    let rest = same-indices xs ys (omega arith) (λ i z e. h (suc i) z e) in
    λ i. same i ∷ rest i

streams-at : (end : State Local) (from : ℕ) (nodes : List Node) (i : ℕ) → slice_get (streams_by_node end from nodes) i ≡ option_map (λ (n : Node). streams_below end (from + i) (outputs_in n.kind)) (slice_get nodes i)
streams-at end from [] i = refl
streams-at end from (n ∷ nodes) zero = ap (λ k. Some (streams_below end k (outputs_in n.kind))) (let same : from ≡ from + 0 = omega arith in same)
streams-at end from (n ∷ nodes) (suc i) =
    streams-at end (suc from) nodes i
    ∙ ap (λ k. option_map (λ (m : Node). streams_below end k (outputs_in m.kind)) (slice_get nodes i)) (let same : suc from + i ≡ from + suc i = omega arith in same)

streams-of_node : (end : State Local) (nodes : List Node) (v : ℕ) → slice_get (streams_by_node end 0 nodes) v ≡ option_map (λ (n : Node). streams_below end v (outputs_in n.kind)) (slice_get nodes v)
streams-of_node end nodes v =
    streams-at end 0 nodes v
    ∙ ap (λ k. option_map (λ (m : Node). streams_below end k (outputs_in m.kind)) (slice_get nodes v)) (let same : 0 + v ≡ v = omega arith in same)

visits-long : (end : State Local) (from : ℕ) (nodes : List Node) → length (visits_by_node end from nodes) ≡ length nodes
visits-long end from [] = refl
visits-long end from (n ∷ nodes) = ap suc (visits-long end (suc from) nodes)

streams-long : (end : State Local) (from : ℕ) (nodes : List Node) → length (streams_by_node end from nodes) ≡ length nodes
streams-long end from [] = refl
streams-long end from (n ∷ nodes) = ap suc (streams-long end (suc from) nodes)

pub runs-have_sequences : RunsHaveSequences
runs-have_sequences plan rows run is v node here =
    record {
      visits = ap (λ l. slice_get l v) is.visits ∙ (sequences-of_node (run_of plan rows) plan.net.nodes v ∙ ap (option_map (λ (n : Node). visits_of n.kind ((run_of plan rows).stations v))) here);
      outputs = ap (λ l. slice_get l v) is.outputs ∙ (streams-of_node (run_of plan rows) plan.net.nodes v ∙ ap (option_map (λ (n : Node). streams_below (run_of plan rows) v (outputs_in n.kind))) here);
    }

pub sequences-make_runs : SequencesMakeRuns
sequences-make_runs plan rows run visits_long outputs_long has =
    record {
      visits = same-indices run.visits (visits_by_node (run_of plan rows) 0 plan.net.nodes) (visits_long ∙ sym (visits-long (run_of plan rows) 0 plan.net.nodes)) (λ v y e. visits v y (slice_get plan.net.nodes v) refl (sym (sequences-of_node (run_of plan rows) plan.net.nodes v) ∙ e));
      outputs = same-indices run.outputs (streams_by_node (run_of plan rows) 0 plan.net.nodes) (outputs_long ∙ sym (streams-long (run_of plan rows) 0 plan.net.nodes)) (λ v y e. outputs v y (slice_get plan.net.nodes v) refl (sym (streams-of_node (run_of plan rows) plan.net.nodes v) ∙ e));
    }
  where
    visits : (v : ℕ) (y : Visits) (o : Option Node) → slice_get plan.net.nodes v ≡ o → option_map (λ (n : Node). visits_of n.kind ((run_of plan rows).stations v)) o ≡ Some y → slice_get run.visits v ≡ Some y
    visits v y None here e = absurd cc
    visits v y (Some node) here e = (has v node here).visits ∙ e

    outputs : (v : ℕ) (y : List Stream) (o : Option Node) → slice_get plan.net.nodes v ≡ o → option_map (λ (n : Node). streams_below (run_of plan rows) v (outputs_in n.kind)) o ≡ Some y → slice_get run.outputs v ≡ Some y
    outputs v y None here e = absurd cc
    outputs v y (Some node) here e = (has v node here).outputs ∙ e

below-long : (end : State Local) (v outs : ℕ) → length (streams_below end v outs) ≡ outs
below-long end v zero = refl
below-long end v (suc outs) = let rest = below-long end v outs in omega (arith, length-append (streams_below end v outs) (stream_from (end.stations v) outs ∷ []))

pub outputs-have_streams : OutputsHaveStreams
outputs-have_streams end v zero out l = absurd (omega arith)
outputs-have_streams end v (suc outs) out l = go (cases_lt out outs) (outputs-have_streams end v outs out)
  where
    go : (out < outs) ⊎ (outs ≤ out) → (out < outs → slice_get (streams_below end v outs) out ≡ Some (stream_from (end.stations v) out)) → slice_get (streams_below end v outs ++ stream_from (end.stations v) outs ∷ []) out ≡ Some (stream_from (end.stations v) out)
    go (inl k) earlier = get-front (streams_below end v outs) (stream_from (end.stations v) outs ∷ []) out (let a = below-long end v outs in omega arith) ∙ earlier k
    go (inr k) earlier =
        let same : out ≡ outs = omega arith in
        ap (slice_get (streams_below end v outs ++ stream_from (end.stations v) outs ∷ [])) (same ∙ sym (below-long end v outs))
        ∙ (get-last (streams_below end v outs) (stream_from (end.stations v) outs) ∙ ap (λ k. Some (stream_from (end.stations v) k)) (sym same))

pub streams-make_outputs : StreamsMakeOutputs
streams-make_outputs end v outs streams long has =
    same-indices streams (streams_below end v outs) (long ∙ sym (below-long end v outs))
    (λ out y e.
    let inside : out < outs = (let a = slice_get_within (streams_below end v outs) out y e in let b = below-long end v outs in omega arith) in
    has out inside ∙ (sym (outputs-have_streams end v outs out inside) ∙ e))
