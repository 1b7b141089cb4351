-- Example texts, each with its first error; and three with their networks.
use Rattle.std.specs.Prelude.{◌≡◌, ◌^◌, ◌∷◌, ◌++◌, [], ℕ, zero, suc, List, replicate, Option, Some, None, codes}
use Rattle.std.specs.Fmt.{decimal}
use Rattle.mq_core.specs.declared.model.Demand.TheVariants.{Column, Fixed}
use Rattle.mq_core.specs.declared.model.Input.{Input}
use Rattle.mq_core.specs.declared.model.Kind.TheVariants.{Fork, Join, Source, Trunk}
use Rattle.mq_core.specs.declared.model.Network.{Network}
use Rattle.mq_model.specs.Model.{model_fault}
use Rattle.mq_model.specs.NetworkOf.{network_in}
use Rattle.mq_model.specs.declared.fault.ModelFault.{ModelFault}
use Rattle.mq_model.specs.declared.fault.ModelFault.TheVariants.{TooLong, BadByte, BadHead, BadLine, NameTwice, TooMany, UnknownInput, OutputTaken, NoSource, Cycle}

abbrev pub Example : Type 0
Example = List ℕ × Option ModelFault

abbrev pub AllAnswered : List Example → Type 0
AllAnswered [] = Unit {0}
AllAnswered ((text, fault) ∷ examples) = (model_fault text ≡ fault) × AllAnswered examples

-- lines that declare this many sources
abbrev pub source_lines : ℕ → List ℕ
source_lines zero = []
source_lines (suc n) = codes "source s" ++ decimal n ++ 10 ∷ source_lines n

abbrev pub line_examples : List Example
line_examples =
    ([], Some (BadHead 1))
    ∷ (codes "model 3\n", Some (BadHead 1))
    ∷ (codes "# x\n\n", Some (BadHead 3))
    ∷ (codes "# x\n\nmodel 1\nsource a\nsource a\n", Some (NameTwice 5))
    ∷ (codes "model 1\nsource s\ntandem t =1 from s\n", Some (BadLine 3 4))
    ∷ (codes "model 1\nsource s\ntandem t =1 / 5 =1 from s\n", Some (BadLine 3 5))
    ∷ (codes "model 1\nsource s\ntandem t =1 / 1 =1 / 2 =1 / 3 =1 / 4 =1 from s\n", Some (BadLine 3 13))
    ∷ (codes "model 1\nsource s\nserver q =1\n", Some (BadLine 3 4))
    ∷ (codes "model 1\nsource s\ndelay d =1\n", Some (BadLine 3 4))
    ∷ (codes "model 1\nsource s\ndelay d from s\n", Some (BadLine 3 3))
    ∷ (codes "model 1\nsource s\nforkjoin f =1 from s\n", Some (BadLine 3 4))
    ∷ (codes "model 1\nsource s\nforkjoin f =1 =2 =3 =4 =5 | =6 from s\n", Some (BadLine 3 7))
    ∷ (codes "model 1\nsource s\nforkjoin f =1 =2 =3 =4 | =5 =6 =7 =8 | =9 from s\n", Some (BadLine 3 12))
    ∷ (codes "model 1\nsource s\nforkjoin f =1 =2 =3 | =4 =5 =6 =7 | =8 =9 from s\n", Some (BadLine 3 13))
    ∷ (codes "model 1\nsource s\nloss l 0 =1 from s\n", Some (BadLine 3 3))
    ∷ (codes "model 1\nsource s\nloss l 1048577 =1 from s\n", Some (BadLine 3 3))
    ∷ (codes "model 1\nsource s\nloss l 2 from s\n", Some (BadLine 3 4))
    ∷ (codes "model 1\nsource s\nserver q =99999999999 from s\n", Some (BadLine 3 3))
    ∷ (codes "model 1\nsource s\nsplit p cut k 5 5 from s\n", Some (BadLine 3 6))
    ∷ (codes "model 1\nsource s\nsplit p cut k 68719476736 7 from s\n", Some (BadLine 3 6))
    ∷ (codes "model 1\nsource s\nsplit p 9 turn from s\n", Some (BadLine 3 3))
    ∷ (codes "model 1\nsource s\nserver f =1 from a b c d e f g h i\n", Some (BadLine 3 13))
    ∷ (codes "model 1\nsource from\n", Some (BadLine 2 2))
    ∷ (codes "model 1\nbound 1\nbound 1\nsource s\n", Some (BadLine 3 1))
    ∷ (codes "model 1\nbound 1152921504606846977\n", Some (BadLine 2 2))
    ∷ (codes "model 1\nsource s\nfork f 2 from s\n", Some (BadLine 3 1))
    ∷ (codes "model 1\nsource s\njoin j from s\n", Some (BadLine 3 1))
    ∷ (codes "model 2\nsource s\nfork f 1 from s\n", Some (BadLine 3 3))
    ∷ (codes "model 2\nsource s\nfork f 5 from s\n", Some (BadLine 3 3))
    ∷ (codes "model 2\nsource s\njoin j from s\n", Some (BadLine 3 5))
    ∷ (codes "model 2\nsource s\njoin j from a b c d e f g h i\n", Some (BadLine 3 12))
    ∷ (codes "model 1\nsource s\ntrunk t 2 =1 from s\n", Some (BadLine 3 1))
    ∷ (codes "model 2\nsource s\ntrunk t 0 =1 from s\n", Some (BadLine 3 3))
    ∷ (codes "model 2\nsource s\ntrunk t 256 =1 from s\n", Some (BadLine 3 3))
    ∷ (codes "model 2\nsource s\ntrunk t 2 from s\n", Some (BadLine 3 4))
    ∷ (codes "model 2\nsource s\ntrunk t 2 =1\n", Some (BadLine 3 5))
    ∷ (codes "model 2\nsource s\ntrunk t 2 =1 from a b c d e f g h i\n", Some (BadLine 3 14))
    ∷ (codes "model 1\n" ++ source_lines 65, Some (TooMany 66))
    ∷ (codes "model 1\nsource s" ++ (128 ∷ []), Some (BadByte 2))
    ∷ (replicate 65537 10, Some TooLong)
    ∷ []

abbrev pub input_examples : List Example
input_examples =
    (codes "model 1\nserver q =1 from s\n", Some (UnknownInput 2 0))
    ∷ (codes "model 1\nsource s\nserver q =1 from s.1\n", Some (UnknownInput 3 0))
    ∷ (codes "model 1\nsource s\nserver q =1 from s\nserver r =1 from s\n", Some (OutputTaken 4 0))
    ∷ (codes "model 1\nsource s\nserver q =1 from s s.0\n", Some (OutputTaken 3 1))
    ∷ (codes "model 1\n", Some NoSource)
    ∷ (codes "model 2\n", Some NoSource)
    ∷ (codes "model 1\nserver a =1 from b\nserver b =1 from a\n", Some NoSource)
    ∷ (codes "model 1\n\nsource s\nserver a =1 from b\nserver b =1 from a\n", Some (Cycle 4 1))
    ∷ (codes "model 1\r\n\tsource  s\r\n", None)
    ∷ (codes "model 1\nbound 1000\nsource s\nserver q d from s\nsplit p cut k 5 6 from q\nsplit r 2 mod k from p\nsplit t 2 turn from p.2\ndelay w =5 from t.1\n", None)
    ∷ (codes "model 1\nsource s\ndelay d =1 from s\nserver r =1 from d.1\n", Some (UnknownInput 4 0))
    ∷ (codes "model 1\nsource s\ntandem t k / 4 =1 / 1 k / 01 j from s\nserver r =1 from t\n", None)
    ∷ (codes "model 1\nsource s\nforkjoin f =1 | j | k | =4 | j | =6 | =7 | =8 from s\nforkjoin g =1 =2 =3 =4 | =5 =6 =7 =8 from f\n", None)
    ∷ (codes "model 1\nsource s\nloss l 1048576 k from s\nserver r =1 from l.1 l\n", None)
    ∷ (codes "model 1\nsource s\nloss l 1 k from s\nserver r =1 from l.2\n", Some (UnknownInput 4 0))
    ∷ (codes "model 2\nsource s\nfork f 4 from s\njoin j from f f.1 f.2 f.3\n", None)
    ∷ (codes "model 2\nsource s\nfork f 3 from s\njoin j from f f.3\n", Some (UnknownInput 4 1))
    ∷ (codes "model 2\nsource s\nfork f 2 from s\njoin j from f f.1\nserver q =1 from j.1\n", Some (UnknownInput 5 0))
    ∷ (codes "model 2\nsource s\ntrunk t 255 k from s\nserver r =1 from t.1 t\n", None)
    ∷ (codes "model 2\nsource s\ntrunk t 1 k from s\nserver r =1 from t.2\n", Some (UnknownInput 4 0))
    ∷ []

-- the network of a text with carriage returns and a tab
abbrev pub one_source : Network
one_source = record { nodes = record { name = codes "s"; kind = Source; inputs = [] } ∷ []; columns = []; bound = 2 ^ 60; version = 1 }

-- the text of a fork whose outputs a join combines, and its network
abbrev pub forked_text : List ℕ
forked_text = codes "# parts\n\nmodel 2\nsource s\nfork f 2 from s\njoin j from f.1 f\n"

abbrev pub output_of : ℕ → ℕ → Input
output_of node out = record { node = node; out = out }

abbrev pub forked : Network
forked = record {
  nodes =
      record { name = codes "s"; kind = Source; inputs = [] }
      ∷ record { name = codes "f"; kind = Fork 2; inputs = output_of 0 0 ∷ [] }
      ∷ record { name = codes "j"; kind = Join; inputs = output_of 1 1 ∷ output_of 1 0 ∷ [] }
      ∷ [];
  columns = [];
  bound = 2 ^ 60;
  version = 2;
}

-- the text of two trunk groups, the second for calls that the first loses, and its network
abbrev pub trunked_text : List ℕ
trunked_text = codes "model 2\nsource s\ntrunk t 024 call from s\ntrunk u 1 =7 from t.1\n"

abbrev pub trunked : Network
trunked = record {
  nodes =
      record { name = codes "s"; kind = Source; inputs = [] }
      ∷ record { name = codes "t"; kind = Trunk 24 (Column 0); inputs = output_of 0 0 ∷ [] }
      ∷ record { name = codes "u"; kind = Trunk 1 (Fixed 7); inputs = output_of 1 1 ∷ [] }
      ∷ [];
  columns = codes "call" ∷ [];
  bound = 2 ^ 60;
  version = 2;
}

pub record AreAnswered : Type 0 where
  pub lines : AllAnswered line_examples
  pub inputs : AllAnswered input_examples
  pub network : network_in (codes "model 1\r\n\tsource  s\r\n") ≡ one_source
  pub forks : network_in forked_text ≡ forked
  pub trunks : network_in trunked_text ≡ trunked
