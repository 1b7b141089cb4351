use Rattle.std.proofs.Common.{◌≡◌, ℕ, Bool, ◌&&◌, true, false, is_some, List, Option, Some, None, Result, Err, refl, ap, ◌∙◌, inl, inr, le_refl}
use Rattle.std.specs.Option.{option_copied}
use Rattle.std.proofs.lemmas.Bool.{and_parts}
use Rattle.mq_outside.specs.declared.outside.FileFault.{FileFault}
use Rattle.mq_outside.specs.declared.outside.FileFault.TheVariants.{Failed, TooLong}
use Rattle.mq_outside.specs.Outside.{next_count}
use Rattle.mq_outside.specs.Memory.{file_of, is_empty}
use Rattle.mq_outside.proofs.ReadLemmas.{latest, told_in, contains_some, gains_file, neither}
use Rattle.mq_outside.proofs.memory.MemFilesFiles.read.Goals as goal

differ : {T : Type 0} → ◌≡◌ {A = Result T FileFault} (Err Failed) (Err TooLong) → ⊥
differ h = cc

file_is : (name name' : List ℕ) (files files' : List (List ℕ × List ℕ)) (found is : Option (List ℕ)) → found ≡ file_of name files → found ≡ is → name ≡ name' → files ≡ files' → file_of name' files' ≡ is
file_is name name' files files' found is told same names lists = cc

no_file : (file : Option (List ℕ)) → file ≡ None → is_some file ≡ true → ⊥
no_file file none there = let gone = ap is_some none in cc

some_none : (file : Option (List ℕ)) (bytes : List ℕ) → file ≡ Some bytes → file ≡ None → ⊥
some_none file bytes some none = cc

not_both : (b : Bool) → b ≡ true → b ≡ false → ⊥
not_both b is not_is = cc

pub returns-then-contains : goal.returns-then-contains
returns-then-contains c =
    let reads = ap (λ f. f.reads) c.self.view_is in
    let faults = ap (λ f. f.faults) c.self.view_is in
    let files = ap (λ f. f.files) c.self.view_is in
    let failing = ap (λ f. f.failing) c.self.view_is in
    let counted = c.saturating_add-self-inside.ensures ∙ ap next_count reads in
    let next = latest _ _ _ c.self.invariant c.self.ranges.1.1.0.1 c.saturating_add-self-inside.ensures in
    let told = told_in c.deref.result.now c.args.self.now.failing c.saturating_add-self-inside.result (next_count c.args.self.now.reads) c.contains.result c.contains.ensures.cases (c.deref.ensures.value ∙ failing) counted in
    let fails = told.0 c.if-contains.true in
    record {
      counted = counted;
      later = rw (← faults) next.0;
      failed = λ e. refl;
      rose = λ e. rw (← faults) next.1;
      quiet = inl refl;
      sure = λ e. absurd (contains_some _ _ fails (and_parts _ _ e).0);
      gains = tt;
      whole = tt;
      fits = tt;
      too_long = λ e. absurd (differ e);
      err = refl;
      same_told = λ n. ap (file_of n) files;
      same_sure = λ n. ap (λ x. is_empty x && is_some (file_of n c.self.inside.files.items)) failing ∙ ap (λ x. is_empty c.args.self.now.failing && is_some (file_of n x)) files;
      exact = (λ e. inl fails, λ w. refl);
      same_files = files;
      same_failing = failing;
    }

pub returns-in-None : goal.returns-in-None
returns-in-None c =
    let reads = ap (λ f. f.reads) c.self.view_is in
    let faults = ap (λ f. f.faults) c.self.view_is in
    let files = ap (λ f. f.files) c.self.view_is in
    let failing = ap (λ f. f.failing) c.self.view_is in
    let counted = c.saturating_add-self-inside.ensures ∙ ap next_count reads in
    let next = latest _ _ _ c.self.invariant c.self.ranges.1.1.0.1 c.saturating_add-self-inside.ensures in
    let none = file_is c.as_bytes.result.now c.args.name.now c.deref-2.result.now c.args.self.now.files _ _ c.find.ensures (ap option_copied c.in-None.is) c.as_bytes.ensures.value (c.deref-2.ensures.value ∙ files) in
    record {
      counted = counted;
      later = rw (← faults) next.0;
      failed = λ e. refl;
      rose = λ e. rw (← faults) next.1;
      quiet = inl refl;
      sure = λ e. absurd (no_file _ none (and_parts _ _ e).1);
      gains = tt;
      whole = tt;
      fits = tt;
      too_long = λ e. absurd (differ e);
      err = refl;
      same_told = λ n. ap (file_of n) files;
      same_sure = λ n. ap (λ x. is_empty x && is_some (file_of n c.self.inside.files.items)) failing ∙ ap (λ x. is_empty c.args.self.now.failing && is_some (file_of n x)) files;
      exact = (λ e. inr none, λ w. refl);
      same_files = files;
      same_failing = failing;
    }

pub returns-in-Some : goal.returns-in-Some
returns-in-Some c =
    let reads = ap (λ f. f.reads) c.self.view_is in
    let faults = ap (λ f. f.faults) c.self.view_is in
    let files = ap (λ f. f.files) c.self.view_is in
    let failing = ap (λ f. f.failing) c.self.view_is in
    let counted = c.saturating_add-self-inside.ensures ∙ ap next_count reads in
    let told = told_in c.deref.result.now c.args.self.now.failing c.saturating_add-self-inside.result (next_count c.args.self.now.reads) c.contains.result c.contains.ensures.cases (c.deref.ensures.value ∙ failing) counted in
    let there = file_is c.as_bytes.result.now c.args.name.now c.deref-2.result.now c.args.self.now.files _ (Some c.in-Some.bytes.now) c.find.ensures (ap option_copied c.in-Some.is) c.as_bytes.ensures.value (c.deref-2.ensures.value ∙ files) in
    let append = c.append.ensures in
    record {
      counted = counted;
      later = rw faults (le_refl _);
      failed = λ e. absurd (append.not_failed e);
      rose = λ e. absurd (append.not_failed e);
      quiet = inr faults;
      sure = λ e. faults;
      gains = gains_file _ _ _ _ _ append.ok append.within;
      whole = rw there append.ok;
      fits = rw there append.within;
      too_long = rw there append.too_long;
      err = append.err;
      same_told = λ n. ap (file_of n) files;
      same_sure = λ n. ap (λ x. is_empty x && is_some (file_of n c.self.inside.files.items)) failing ∙ ap (λ x. is_empty c.args.self.now.failing && is_some (file_of n x)) files;
      exact = (λ e. absurd (append.not_failed e), neither (λ h. not_both _ (told.1 h) c.if-contains.false) (some_none _ _ there));
      same_files = files;
      same_failing = failing;
    }
