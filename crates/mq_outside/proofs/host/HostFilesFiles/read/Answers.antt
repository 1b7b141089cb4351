use denote.Enum.Bare.{same_true, same_false}
use Rattle.std.proofs.Common.{◌≡◌, refl, sym, ap, ◌∙◌, inl, inr, Err, le_refl, rules, true≢false}
use Rattle.mq_outside.specs.contracts.outside.FileFault.{the_type}
use Rattle.mq_outside.specs.declared.outside.FileFault.TheVariants.{Failed}
use Rattle.mq_outside.specs.Outside.{next_count}
use Rattle.mq_outside.proofs.ReadLemmas.{latest, cut_back, ok_not_err, err_inner}
use Rattle.mq_outside.proofs.host.HostFilesFiles.read.Goals as goal

pub returns-in-Ok : goal.returns-in-Ok
returns-in-Ok g c =
    let reads : c.self.inside.reads ≡ c.args.self.now.reads = ap (λ f. f.reads) c.self.view_is in
    let faults : c.self.inside.faults ≡ c.args.self.now.faults = ap (λ f. f.faults) c.self.view_is in
    record {
      counted = c.saturating_add-self-inside.ensures ∙ ap next_count reads;
      later = rw faults (le_refl _);
      failed = ok_not_err _ _;
      rose = ok_not_err _ _;
      quiet = inr faults;
      sure = λ e. faults;
      gains = c.in-Ok.ensures.gains;
      whole = tt;
      fits = tt;
      too_long = λ e. tt;
      err = tt;
      same_told = λ n. refl;
      same_sure = λ n. refl;
    }

pub returns-then-eq : goal.returns-then-eq
returns-then-eq g c =
    let reads : c.self.inside.reads ≡ c.args.self.now.reads = ap (λ f. f.reads) c.self.view_is in
    let faults : c.self.inside.faults ≡ c.args.self.now.faults = ap (λ f. f.faults) c.self.view_is in
    let is : c.in-Err.fault ≡ Failed = same_true the_type (search rules) _ _ (sym c.if-eq.ensures) in
    let next = latest _ _ _ c.self.invariant c.self.ranges.1.0.1 c.saturating_add-self-inside.ensures in
    record {
      counted = c.saturating_add-self-inside.ensures ∙ ap next_count reads;
      later = rw (← faults) next.0;
      failed = λ e. refl;
      rose = λ e. rw (← faults) next.1;
      quiet = inl (ap (λ f. Err f) is);
      sure = λ e. absurd (true≢false (sym e));
      gains = tt;
      whole = tt;
      fits = tt;
      too_long = λ e. tt;
      err = c.truncate.ensures.items ∙ cut_back _ _ _ (c.len-had.ensures ∙ c.args.into.now.ok.0) c.read_whole.ensures.grows;
      same_told = λ n. refl;
      same_sure = λ n. refl;
    }

pub returns-else-eq : goal.returns-else-eq
returns-else-eq g c =
    let reads : c.self.inside.reads ≡ c.args.self.now.reads = ap (λ f. f.reads) c.self.view_is in
    let faults : c.self.inside.faults ≡ c.args.self.now.faults = ap (λ f. f.faults) c.self.view_is in
    let not : c.in-Err.fault ≡ Failed → ⊥ = same_false the_type _ _ (sym c.if-eq.ensures) in
    record {
      counted = c.saturating_add-self-inside.ensures ∙ ap next_count reads;
      later = rw faults (le_refl _);
      failed = λ e. absurd (not (err_inner _ _ e));
      rose = λ e. absurd (not (err_inner _ _ e));
      quiet = inr faults;
      sure = λ e. faults;
      gains = tt;
      whole = tt;
      fits = tt;
      too_long = λ e. tt;
      err = c.truncate.ensures.items ∙ cut_back _ _ _ (c.len-had.ensures ∙ c.args.into.now.ok.0) c.read_whole.ensures.grows;
      same_told = λ n. refl;
      same_sure = λ n. refl;
    }
