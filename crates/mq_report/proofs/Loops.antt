-- What is left of a report in a loop over ranks, or over outputs.
use Rattle.std.proofs.Common.{◌≡◌, ℕ, suc, ◌+◌, ◌-◌, ◌<◌, ◌≤◌, List, [], ◌++◌, drop, Option, None, Some, ap, refl, sym, ◌∙◌, arith}
use Rattle.std.specs.Prelude.{slice_get}
use Rattle.std.specs.Io.KnownBytes.{append_known}
use Rattle.std.proofs.lemmas.List.{append-nil}
use Rattle.mq_base.proofs.lemmas.Lists.{drop_at}
use Rattle.mq_outside.proofs.lemmas.Gathers.{Gathers}
use Rattle.mq_core.specs.Local.{Local}
use Rattle.mq_core.specs.Machine.{State, Station}
use Rattle.mq_core.specs.Sound.{outputs_in}
use Rattle.mq_core.specs.declared.model.Network.{Network}
use Rattle.mq_core.specs.declared.model.Node.{Node}
use Rattle.mq_core.specs.declared.model.Rows.{Rows}
use Rattle.mq_report.specs.Text.{line_of, line_at, nodes_text, exit_lines, exit_lines_at, exits_at, exits_text}

-- nothing more is taken
same-known : (t : Option (List ℕ)) → t ≡ append_known t []
same-known None = refl
same-known (Some bytes) = ap Some (sym (append-nil bytes))

-- a writer that has all of its text still to add
pub gathers_begun : (t : Option (List ℕ)) (s f : ℕ) (p text left : List ℕ) → text ≡ left → Gathers t t s s f f (p ++ text) p left
gathers_begun t s f p text left all =
    record {
      text = p;
      goes = record { done = []; took = record { at_most = omega arith; gained = same-known t; spent = omega arith }; split = refl };
      cut = ap (λ rest. p ++ rest) all;
      still = refl;
    }

-- the node of the next rank
pub nodes-next : (form : ℕ) (net : Network) (rows : Rows) (end : State Local) (order : List ℕ) (rank v : ℕ) (node : Node) → slice_get order rank ≡ Some v → slice_get net.nodes v ≡ Some node →
    nodes_text form net rows end (drop rank order) ≡ line_of net.version form rows end v node ++ nodes_text form net rows end (drop (rank + 1) order)
nodes-next form net rows end order rank v node h there =
    ap (nodes_text form net rows end) (drop_at order rank v h) ∙ ap (λ o. line_at net.version form rows end v o ++ nodes_text form net rows end (drop (rank + 1) order)) there

pub exits-next : (net : Network) (rows : Rows) (end : State Local) (order : List ℕ) (rank v : ℕ) (node : Node) → slice_get order rank ≡ Some v → slice_get net.nodes v ≡ Some node →
    exits_text net rows end (drop rank order) ≡ exit_lines net.nodes rows v node.name (end.stations v) 0 (outputs_in node.kind) ++ exits_text net rows end (drop (rank + 1) order)
exits-next net rows end order rank v node h there =
    ap (exits_text net rows end) (drop_at order rank v h) ∙ ap (λ o. exits_at net.nodes rows end v o ++ exits_text net rows end (drop (rank + 1) order)) there

-- the next output
pub outputs-next : (nodes : List Node) (rows : Rows) (v : ℕ) (name : List ℕ) (station : Station Local) (out outs : ℕ) → out < outs →
    exit_lines nodes rows v name station out (outs - out) ≡ exit_lines_at nodes rows v name station out ++ exit_lines nodes rows v name station (out + 1) (outs - (out + 1))
unfolding exit_lines
outputs-next nodes rows v name station out outs l =
    let next : outs - out ≡ suc (outs - (out + 1)) = omega arith in
    ap (exit_lines nodes rows v name station out) next

-- no output is left
pub no_outputs : (nodes : List Node) (rows : Rows) (v : ℕ) (name : List ℕ) (station : Station Local) (out outs : ℕ) → outs ≤ out → exit_lines nodes rows v name station out (outs - out) ≡ []
unfolding exit_lines
no_outputs nodes rows v name station out outs l = let none : outs - out ≡ 0 = omega arith in ap (exit_lines nodes rows v name station out) none
