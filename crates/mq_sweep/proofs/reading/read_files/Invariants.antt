use Rattle.std.proofs.Common.{◌≡◌, false, length, map, take}
use Rattle.mq_base.specs.Text.{texts}
use Rattle.mq_outside.specs.Reading.{ReadsNames}
use Rattle.mq_sweep.specs.Ends.{AreRead, AreShort}
use Rattle.mq_sweep.proofs.reading.read_files.Given as goal

abbrev pub invariant-words : goal.invariant-words
invariant-words g l = record {
  len : length l.contents ≡ l.index;
  short : AreShort l.index (map (g.F.Files.told l.initial.files) (texts l.words));
  read : AreRead l.index (map (g.F.Files.told l.initial.files) (texts l.words)) l.contents;
  reads : ReadsNames g.F.Files.told g.F.Files.is_sure g.F.Files.reads g.F.Files.faults l.initial.files l.files (take l.index (texts l.words)) false;
}
