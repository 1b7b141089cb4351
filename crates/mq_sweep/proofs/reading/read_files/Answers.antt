use Rattle.std.proofs.Common.{◌≡◌, ◌∙◌, ◌+◌, ℕ, false, List, [], Option, None, length, map, get_or, ap, sym, subst, arith}
use Rattle.std.proofs.lemmas.List.{length_push}
use Rattle.mq_base.specs.Text.{texts}
use Rattle.mq_sweep.specs.Ends.{AreRead, RefusesRead}
use Rattle.mq_sweep.proofs.Files.{IsRead, at_word, from_ok, next_read, read_more, refused_count, refused_here, short_more}
use Rattle.mq_sweep.proofs.reading.read_files.Goals as goal

pub words-preserved : goal.words-preserved
words-preserved g c =
    let told : List ℕ → Option (List ℕ) = g.F.Files.told c.args.files.now in
    let tolds : List (Option (List ℕ)) = map told (texts c.args.words.now) in
    let here : get_or tolds c.words.index None ≡ g.F.Files.told c.words.files (get_or c.args.words.now c.words.index (record { ref_ptr = (0, 0); now = [] })).now =
    at_word told c.args.words.now c.words.index (record { ref_ptr = (0, 0); now = [] }) c.words-test.true ∙ sym (c.words.invariant.reads.same_told _) in
    let is : IsRead (c.words.index + 1) (get_or tolds c.words.index None) c.in-Ok.bytes = subst (λ (o : Option (List ℕ)). IsRead (c.words.index + 1) o c.in-Ok.bytes) (sym here) c.in-Ok.ensures.read in
    let pushed = from_ok c.push.result (sym c.is_err.ensures.value ∙ c.if-is_err.false) c.push.ensures.ok in
    record {
      len = ap length pushed ∙ (length_push c.words.contents c.in-Ok.bytes ∙ ap (λ (n : ℕ). n + 1) c.words.invariant.len);
      short = short_more c.words.index tolds c.in-Ok.bytes c.words.invariant.short is;
      read = subst (λ (l : List (List ℕ)). AreRead (c.words.index + 1) tolds l) (sym pushed) (read_more c.words.index tolds c.words.contents c.in-Ok.bytes c.words.invariant.len c.words.invariant.read is);
      reads = next_read (g.F.Files.told) (g.F.Files.is_sure) (g.F.Files.reads) (g.F.Files.faults) _ _ _ c.args.words.now c.words.index (record { ref_ptr = (0, 0); now = [] }) false c.words-test.true c.words.invariant.reads c.in-Ok.ensures.reads;
    }

pub returns-in-Err-clause-refused : goal.returns-in-Err-clause-refused
returns-in-Err-clause-refused g c =
    let told : List ℕ → Option (List ℕ) = g.F.Files.told c.args.files.now in
    let tolds : List (Option (List ℕ)) = map told (texts c.args.words.now) in
    let here : get_or tolds c.words.index None ≡ g.F.Files.told c.words.files (get_or c.args.words.now c.words.index (record { ref_ptr = (0, 0); now = [] })).now =
    at_word told c.args.words.now c.words.index (record { ref_ptr = (0, 0); now = [] }) c.words-test.true ∙ sym (c.words.invariant.reads.same_told _) in
    refused_here (length c.args.words.now) c.words.index tolds c.in-Err.outcome c.words-test.true c.words.invariant.short
    (subst (λ (o : Option (List ℕ)). RefusesRead (c.words.index + 1) o c.in-Err.outcome) (sym here) c.in-Err.ensures.refused)

pub returns-in-Err-clause-reads : goal.returns-in-Err-clause-reads
returns-in-Err-clause-reads g c = (
  c.words.index + 1,
  refused_count (length c.args.words.now) c.words.index _ c.in-Err.outcome c.words-test.true c.in-Err.ensures.refused,
  next_read (g.F.Files.told) (g.F.Files.is_sure) (g.F.Files.reads) (g.F.Files.faults) _ _ _ c.args.words.now c.words.index (record { ref_ptr = (0, 0); now = [] }) _ c.words-test.true c.words.invariant.reads c.in-Err.ensures.reads,
)

pub returns-then-is_err-clause-reads : goal.returns-then-is_err-clause-reads
returns-then-is_err-clause-reads g c = (
  c.words.index + 1,
  omega (arith, c.words-test.true),
  next_read (g.F.Files.told) (g.F.Files.is_sure) (g.F.Files.reads) (g.F.Files.faults) _ _ _ c.args.words.now c.words.index (record { ref_ptr = (0, 0); now = [] }) false c.words-test.true c.words.invariant.reads c.in-Ok.ensures.reads,
)
