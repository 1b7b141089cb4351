-- The outputs of a split's jobs, as a scan.
use Rattle.std.proofs.Common.{◌≡◌, ℕ, zero, suc, ◌+◌, ◌^◌, ◌<◌, All, List, [], ◌∷◌, drop, length, get_or, map, sym, ap, ◌∙◌, arith}
use Rattle.std.specs.Prelude.{nat_le}
use Rattle.std.proofs.lemmas.List.{drop_all}
use Rattle.std.proofs.lemmas.List.Elements.{All-cons, All-nil}
use Rattle.std.proofs.lemmas.List.Sums.{count_by-le-length}
use Rattle.std.proofs.Math.Seq.{drop-cons}
use Rattle.mq_core.specs.Kinds.Split.{output_at}
use Rattle.mq_core.specs.declared.model.Route.{Route}
use Rattle.mq_core.specs.declared.model.Route.TheVariants.{Cut, Modulo, Turn}
use Rattle.mq_redo.specs.Alone.{as_is, own_only}
use Rattle.mq_scan.specs.Folds.{carries_after}
use Rattle.mq_split.specs.Outs.{HasOutputs, outs_from}

routed-from : (route : Route) (values : List ℕ) (at n : ℕ) → at + n ≡ length values → map as_is (carries_after own_only 0 (λ k. output_at route (get_or values k 0) k) at n) ≡ outs_from route at (drop at values)
routed-from route values at zero e = ap (outs_from route at) (sym (drop_all at values (omega arith)))
routed-from route values at (suc n) e = (λ i. output_at route (get_or values at 0) at ∷ routed-from route values (suc at) n (omega arith) i) ∙ sym (ap (outs_from route at) (drop-cons values at 0 (omega arith)))

pub routed-all : (route : Route) (values : List ℕ) → map as_is (carries_after own_only 0 (λ k. output_at route (get_or values k 0) k) 0 (length values)) ≡ outs_from route 0 values
routed-all route values = routed-from route values 0 (length values) (omega arith)

-- each fits in a byte
output-small : (route : Route) (value position : ℕ) → HasOutputs route → output_at route value position < 2 ^ 8
output-small (Modulo outputs column) value position h = let some = h.least in let most = h.most in omega arith
output-small (Turn outputs) value position h = let some = h.least in let most = h.most in omega arith
output-small (Cut column thresholds) value position h = let most = h.most in let few = count_by-le-length (λ threshold. nat_le threshold value) thresholds in omega arith

pub outs-small : (route : Route) (position : ℕ) (values : List ℕ) → HasOutputs route → All (λ out. out < 2 ^ 8) (outs_from route position values)
outs-small route position [] h = All-nil _
outs-small route position (value ∷ values) h = All-cons (λ out. out < 2 ^ 8) (output_at route value position) (outs_from route (suc position) values) (output-small route value position h) (outs-small route (suc position) values h)
