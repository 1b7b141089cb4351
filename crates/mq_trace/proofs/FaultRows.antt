-- What the definitions say of small texts, computed.
use Rattle.std.proofs.Common.{◌≡◌, refl, List, ℕ, [], ◌∷◌, ◌++◌, Some, None}
use Rattle.std.specs.Prelude.{codes, ◌^◌}
use Rattle.csv.specs.Machine.{next_record}
use Rattle.csv.specs.Reading.{records_from, strip_bom}
use Rattle.mq_trace.specs.Header.{bad_column, bad_header}
use Rattle.mq_trace.specs.Trace.{bad_value, row_fault, rows_fault, rows_in, trace_fault}
use Rattle.mq_core.specs.declared.model.Demand.TheVariants.{Column}
use Rattle.mq_core.specs.declared.model.Kind.TheVariants.{Source, Server}
use Rattle.mq_core.specs.declared.model.Network.{Network}
use Rattle.mq_core.specs.declared.model.Rows.{Rows}
use Rattle.mq_trace.specs.declared.fault.TraceFault.TheVariants.{BadHeader, MissingColumn, BadCount, UnknownSource, BadNumber}

unfoldable pub opened : Unit {0}
unfolding next_record records_from strip_bom bad_column bad_header bad_value row_fault rows_fault
opened = tt

-- one source, and a server that takes its demands from the only column
abbrev pub small : Network
small = record {
  nodes = record { name = codes "src"; kind = Source; inputs = [] } ∷ record { name = codes "desk"; kind = Server (Column 0); inputs = record { node = 0; out = 0 } ∷ [] } ∷ [];
  columns = codes "d" ∷ [];
  bound = 2 ^ 60;
  version = 1;
}

abbrev pub mark : List ℕ
mark = 0xEF ∷ 0xBB ∷ 0xBF ∷ []

-- the faults of texts, one a line
pub faults : (trace_fault small [] ≡ Some (BadHeader 1))
    × (trace_fault small (codes "source\n") ≡ Some (BadHeader 2))
    × (trace_fault small mark ≡ Some (BadHeader 1))
    × (trace_fault small (mark ++ codes "source,time,d\nsrc,0,4\n") ≡ None)
    × (trace_fault small (mark ++ mark ++ codes "source,time,d\nsrc,0,4\n") ≡ Some (BadHeader 1))
    × (trace_fault small (codes "time,source,d\n") ≡ Some (BadHeader 1))
    × (trace_fault small (codes "source,times,d\n") ≡ Some (BadHeader 2))
    × (trace_fault small (codes "source,time,d,d\n") ≡ Some (BadHeader 4))
    × (trace_fault small (codes "source,time,source,time,,d\n") ≡ None)
    × (trace_fault small (codes "source,time,d,a,b,c,e,f,g,h,i,j,k,l,m,n,o,p\n") ≡ None)
    × (trace_fault small (codes "source,time,d,a,b,c,e,f,g,h,i,j,k,l,m,n,o,p,q\n") ≡ Some (BadHeader 19))
    × (trace_fault small (codes "source,time,d,a,b,c,e,f,g,h,i,j,k,l,m,n,o,d,p\n") ≡ Some (BadHeader 18))
    × (trace_fault small (codes "source,time\nsrc,0\n") ≡ Some (MissingColumn 0))
    × (trace_fault small (codes "source,time,d\nsrc,0,4\nnobody,x,y\n") ≡ Some (UnknownSource 2))
    × (trace_fault small (codes "source,time,d\ndesk,0,4\n") ≡ Some (UnknownSource 1))
    × (trace_fault small (codes "source,time,d\nsrc, 1,4\n") ≡ Some (BadNumber 1 2))
    × (trace_fault small (codes "source,time,d\nsrc,1152921504606846977,4\n") ≡ Some (BadNumber 1 2))
    × (trace_fault small (codes "source,time,d\nsrc,1152921504606846976,68719476736\n") ≡ None)
    × (trace_fault small (codes "source,time,d\nsrc,0,68719476737\n") ≡ Some (BadNumber 1 3))
    × (trace_fault small (codes "source,time,d\nsrc,0,x\nsrc,1\n") ≡ Some (BadNumber 1 3))
    × (trace_fault small (codes "source,time,d\nsrc,0,4\nsrc,1") ≡ Some (BadCount 2))
    × (trace_fault small (codes "source,time,d\nsrc,0,4,5\n") ≡ Some (BadCount 1))
    × (trace_fault small (codes "source,time,d,note\nsrc,0,4,\"a, b\"\n") ≡ None)
    × (trace_fault small (codes "\"source\",\"time\",\"d\"\r\n\"src\",0,4\r\n") ≡ None)
    × (trace_fault small (codes "source,time,d\n\n\r\nsrc,0,4\n\nsrc,0,x\n") ≡ Some (BadNumber 2 3))
    × (trace_fault small (codes "source,time,d\nsrc,007,04") ≡ None)
unfolding opened
faults = (refl, refl, refl, refl, refl, refl, refl, refl, refl, refl, refl, refl, refl, refl, refl, refl, refl, refl, refl, refl, refl, refl, refl, refl, refl, refl)

-- the rows that texts declare
pub declared : ◌≡◌ {A = Rows} (rows_in small (codes "source,time,d\nsrc,0,4\nsrc,1,1\nsrc,2,3\n")) (record { source = 0 ∷ 0 ∷ 0 ∷ []; time = 0 ∷ 1 ∷ 2 ∷ []; demands = (4 ∷ 1 ∷ 3 ∷ []) ∷ [] })
    × ◌≡◌ {A = Rows} (rows_in small (codes "source,time,d\nsrc,007,04")) (record { source = 0 ∷ []; time = 7 ∷ []; demands = (4 ∷ []) ∷ [] })
unfolding opened
declared = (refl, refl)
