-- The laws of a join.
use Rattle.std.proofs.Common.{◌≡◌, ◌⊎◌, inl, inr, ℕ, zero, suc, ◌+◌, ◌<◌, ◌≤◌, Bool, true, false, cond, eqb, List, [], ◌∷◌, ◌++◌, length, Option, Some, None, refl, sym, ap, arith, subst, ◌∙◌, length-append}
use Rattle.std.proofs.lemmas.Bool.{cases_lt}
use Rattle.std.proofs.lemmas.Bool.Decides.{nat_tests}
use Rattle.std.proofs.lemmas.List.{append-nil}
use Rattle.std.specs.List.{AllByRecursion as Each}
use Rattle.std.specs.Prelude.{nat_le, slice_get}
use Rattle.mq_core.specs.Event.{Event}
use Rattle.mq_core.specs.Event.Event.{Arrive}
use Rattle.mq_core.specs.Handling.{latest}
use Rattle.mq_core.specs.Kinds.Join.{is_matched, join, join_on, joined_exit, match_of, matches}
use Rattle.mq_core.specs.Local.{Local}
use Rattle.mq_core.specs.Machine.{Emission, Visit, emission_of, emissions_of, finishes_of}
use Rattle.mq_core.specs.Tallies.{one_if_none, sum_below}
use Rattle.mq_core.specs.declared.model.Rows.{Rows}
use Rattle.mq_core.proofs.EachKind.KindLaws.{Inside, KindLaws}
use Rattle.mq_core.specs.Tallies.{one_if_there}
use Rattle.mq_core.proofs.Join.Entries.{matched-all, taken-length}
use Rattle.mq_core.proofs.Join.HeldEntries.{Entered, entered-matches, entered-waits}
use Rattle.mq_core.proofs.Join.JoinFlow.{flow_by, flow-matches, flow-waits}
use Rattle.mq_core.proofs.Join.Joinings.{Joining, joining-matches, joining-waits, of_row, of_row-push}
use Rattle.mq_core.proofs.Join.Numbers.{number-joined, number-matches}
use Rattle.mq_base.proofs.lemmas.Each.{Each-append}
use Rattle.mq_base.proofs.lemmas.Lists.{get-front}
use Rattle.mq_core.specs.Ranges.{is_within}
use Rattle.mq_core.proofs.Counting.Released.{emission-one, times-one}
use Rattle.mq_core.proofs.Fork.ForkLaws.{no-service}
use Rattle.mq_core.proofs.Passing.Passes.{no_finish}
use Rattle.mq_core.proofs.Server.Serves.{get-latest, latest-push}

-- what holds of it between two events, where each visit came by a port that it has
pub record Joined (ports : ℕ) (visits : List Visit) (held : List (ℕ × ℕ)) (emitted : List Emission) (fs : List Event) : Type 0 where
  pub joining : Joining ports visits held emitted fs
  pub ported : Each (λ (v : Visit). v.port < ports) visits
  -- it holds those that have not left
  pub number : length held ≡ sum_below (length visits) (λ p. one_if_none (joined_exit visits emitted p (slice_get visits p)))
  -- it let out the recurrence over its visits
  pub left : emitted ≡ flow_by ports visits
  -- its entries are the visits behind the matches that went on
  pub entered : Entered ports visits held emitted

no-match : (ports job i : ℕ) → 1 ≤ ports → match_of ports job i [] ≡ None
no-match zero job i l = absurd (omega arith)
no-match (suc ports) job i l = refl

pub joined-opens : (ports : ℕ) → 1 ≤ ports → Joined ports [] [] [] []
joined-opens ports l =
    record {
      joining = record { none = refl; some = l; entries = tt; counts = λ job port k. refl; places = λ job i. sym (no-match ports job i l); known = tt };
      ported = tt;
      number = refl;
      left = refl;
      entered = record { fronts = λ job port l. refl; owned = tt };
    }

-- one visit more, by one of its ports
pub joined-arrives : (ports now v : ℕ) (local : Local) (visits : List Visit) (emitted : List Emission) (fs : List Event) (x : Visit) → x.arrive ≡ now → x.port < ports → Joined ports visits local.held emitted fs →
    Joined ports (visits ++ x ∷ []) (join_on ports (visits ++ x ∷ []) local (Arrive now v x.port x.job)).local.held
    (emitted ++ emissions_of now (visits ++ x ∷ []) (join_on ports (visits ++ x ∷ []) local (Arrive now v x.port x.job)).releases) (fs ++ [])
joined-arrives ports now v local visits emitted fs x at here h = go (is_matched (visits ++ x ∷ []) x.job ports (local.held ++ (x.port, latest (visits ++ x ∷ [])) ∷ [])) refl
  where
    m : Emission
    m = record { out = 0; position = length visits; job = x.job; time = x.arrive }

    -- what it lets out at a match
    out : emission_of now 0 (latest (visits ++ x ∷ [])) (slice_get (visits ++ x ∷ []) (latest (visits ++ x ∷ []))) ++ [] ≡ m ∷ []
    out = ap (λ o. emission_of now 0 (latest (visits ++ x ∷ [])) o ++ []) (get-latest visits x) ∙ (λ i. record { out = 0; position = latest-push visits x i; job = x.job; time = sym at i } ∷ [])

    ported : Each (λ (y : Visit). y.port < ports) (visits ++ x ∷ [])
    ported = Each-append _ visits (x ∷ []) h.ported (here, tt)

    go : (b : Bool) → is_matched (visits ++ x ∷ []) x.job ports (local.held ++ (x.port, latest (visits ++ x ∷ [])) ∷ []) ≡ b →
        Joined ports (visits ++ x ∷ []) (matches (visits ++ x ∷ []) x.job ports local (local.held ++ (x.port, latest (visits ++ x ∷ [])) ∷ []) b).local.held
        (emitted ++ emissions_of now (visits ++ x ∷ []) (matches (visits ++ x ∷ []) x.job ports local (local.held ++ (x.port, latest (visits ++ x ∷ [])) ∷ []) b).releases) (fs ++ [])
    go false e =
        subst (λ l. Joined ports (visits ++ x ∷ []) (local.held ++ (x.port, latest (visits ++ x ∷ [])) ∷ []) (emitted ++ []) l) (sym (append-nil fs))
        (subst (λ l. Joined ports (visits ++ x ∷ []) (local.held ++ (x.port, latest (visits ++ x ∷ [])) ∷ []) l fs) (sym (append-nil emitted))
        (record {
          joining = joining-waits ports visits local.held emitted fs x here h.joining e;
          ported = ported;
          number = number-joined ports visits local.held emitted fs x here h.ported h.joining h.number;
          left = flow-waits ports visits local.held emitted fs x here h.joining e h.left;
          entered = entered-waits ports visits local.held emitted fs x here h.joining h.entered;
        }))
    go true e =
        subst (λ l. Joined ports (visits ++ x ∷ []) (matches (visits ++ x ∷ []) x.job ports local (local.held ++ (x.port, latest (visits ++ x ∷ [])) ∷ []) true).local.held (emitted ++ emissions_of now (visits ++ x ∷ []) (record { out = 0; position = latest (visits ++ x ∷ []) } ∷ [])) l) (sym (append-nil fs))
        (subst (λ l. Joined ports (visits ++ x ∷ []) (matches (visits ++ x ∷ []) x.job ports local (local.held ++ (x.port, latest (visits ++ x ∷ [])) ∷ []) true).local.held (emitted ++ l) fs) (sym out)
        (record {
          joining = joining-matches ports visits local.held emitted fs x here h.joining m refl refl e;
          ported = ported;
          number = number-matches ports visits local.held emitted fs x here h.ported h.joining m refl e h.number;
          left = flow-matches ports visits local.held emitted fs x here h.joining e h.left;
          entered = entered-matches ports visits local.held emitted fs x here h.joining h.entered m refl;
        }))

-- what a visit lets out leaves the exits of the others, or ends a match now
abbrev pub ExitsNow : ℕ → ℕ → Option Emission → Option Emission → Type 0
ExitsNow now position before after = (after ≡ before) ⊎ ((before ≡ None) × ((m : Emission) × (after ≡ Some m) × (m.position ≡ position) × (m.time ≡ now)))

-- one emission more in a list
pub exit-more : (job : ℕ) (ms : List Emission) (m : Emission) (i : ℕ) → ExitsNow m.time m.position (slice_get (of_row job ms) i) (slice_get (of_row job (ms ++ m ∷ [])) i)
exit-more job ms m i = subst (λ l. ExitsNow m.time m.position (slice_get (of_row job ms) i) (slice_get l i)) (sym (of_row-push job ms m)) (go (eqb m.job job) (cases_lt i (length (of_row job ms))))
  where
    last : (l : List Emission) (n : ℕ) → length l ≤ n → ExitsNow m.time m.position (slice_get l n) (slice_get (l ++ m ∷ []) n)
    last [] zero u = inr (refl, (m, refl, refl, refl))
    last [] (suc n) u = inl refl
    last (k ∷ l) zero u = absurd (omega arith)
    last (k ∷ l) (suc n) u = last l n (omega arith)

    go : (b : Bool) → (i < length (of_row job ms)) ⊎ (length (of_row job ms) ≤ i) → ExitsNow m.time m.position (slice_get (of_row job ms) i) (slice_get (of_row job ms ++ cond b (m ∷ []) []) i)
    go b (inl l) = inl (get-front (of_row job ms) (cond b (m ∷ []) []) i l)
    go false (inr l) = inl (ap (λ k. slice_get k i) (append-nil (of_row job ms)))
    go true (inr l) = last (of_row job ms) i l

-- who leaves now is still there for the visit that comes now, and was for those before it; who left before isn't
pub exits-there : (time now last : ℕ) (before after : Option Emission) → ExitsNow now last before after → ((m : Emission) → before ≡ Some m → m.position < last) → one_if_there join.there time last after ≡ one_if_none before
exits-there time now last before after (inl e) known = ap (one_if_there join.there time last) e ∙ go before refl
  where
    less : (a b : ℕ) → b < a → ◌≡◌ {A = ℕ} (cond (nat_le a b) 1 0) 0
    less a b l = grind (arith, nat_tests)

    go : (o : Option Emission) → before ≡ o → one_if_there join.there time last o ≡ one_if_none o
    go None f = refl
    go (Some m) f = less last m.position (known m f)
exits-there time now last before after (inr (none, (m, e, p, t))) known = ap (one_if_there join.there time last) e ∙ (ap (λ q. cond {A = ℕ} (nat_le last q) 1 0) p ∙ (same last ∙ ap one_if_none (sym none)))
  where
    same : (a : ℕ) → ◌≡◌ {A = ℕ} (cond (nat_le a a) 1 0) 1
    same a = grind (arith, nat_tests)

pub exits-before : (time now last p : ℕ) (before after : Option Emission) → p < last → ExitsNow now last before after → one_if_there join.there time p after ≡ one_if_there join.there time p before
exits-before time now last p before after l (inl e) = ap (one_if_there join.there time p) e
exits-before time now last p before after l (inr (none, (m, e, q, t))) = ap (one_if_there join.there time p) e ∙ (ap (λ n. cond {A = ℕ} (nat_le p n) 1 0) q ∙ (more p last l ∙ ap (one_if_there join.there time p) (sym none)))
  where
    more : (a b : ℕ) → a < b → ◌≡◌ {A = ℕ} (cond (nat_le a b) 1 0) 1
    more a b u = grind (arith, nat_tests)

-- what holds of it between two events
abbrev pub join-inside : ℕ → Inside
join-inside ports =
    record {
      fact = λ v s fs now. Joined ports s.visits s.local.held s.emitted fs;
      load = λ onward local. 0;
      busy = λ s fs now. s.busy ≡ 0;
    }

some-ports : (n : ℕ) → is_within 2 8 n ≡ true → 1 ≤ n
some-ports zero e = absurd cc
some-ports (suc n) e = omega arith

-- a visit lets out at most one
join-few : (ports now v port job : ℕ) (local : Local) (visits : List Visit) → length (emissions_of now visits (join_on ports visits local (Arrive now v port job)).releases) ≤ 1
join-few ports now v port job local visits = go (is_matched visits job ports (local.held ++ (port, latest visits) ∷ []))
  where
    go : (b : Bool) → length (emissions_of now visits (matches visits job ports local (local.held ++ (port, latest visits) ∷ []) b).releases) ≤ 1
    go false = omega arith
    go true = emission-one now 0 (latest visits) (slice_get visits (latest visits))

-- a match takes out at least one for the one that it lets out
join-enters : (ports now v port job : ℕ) (local : Local) (visits : List Visit) → 1 ≤ ports →
    length (join_on ports visits local (Arrive now v port job)).local.held + length (emissions_of now visits (join_on ports visits local (Arrive now v port job)).releases) ≤ length local.held + 1
join-enters ports now v port job local visits some = go (is_matched visits job ports (local.held ++ (port, latest visits) ∷ [])) refl
  where
    size : length (local.held ++ (port, latest visits) ∷ []) ≡ suc (length local.held)
    size = omega (arith, length-append local.held ((port, latest visits) ∷ []))

    go : (b : Bool) → is_matched visits job ports (local.held ++ (port, latest visits) ∷ []) ≡ b →
        length (matches visits job ports local (local.held ++ (port, latest visits) ∷ []) b).local.held + length (emissions_of now visits (matches visits job ports local (local.held ++ (port, latest visits) ∷ []) b).releases) ≤ length local.held + 1
    go false e = omega (arith, size)
    go true e =
        let taken = taken-length visits job (local.held ++ (port, latest visits) ∷ []) ports (matched-all visits job ports (local.held ++ (port, latest visits) ∷ []) e) in
        let one = emission-one now 0 (latest visits) (slice_get visits (latest visits)) in
        let all = size in
        omega arith

-- it schedules nothing
join-quiet : (ports now v port job : ℕ) (local : Local) (visits : List Visit) → (join_on ports visits local (Arrive now v port job)).services ≡ []
join-quiet ports now v port job local visits = go (is_matched visits job ports (local.held ++ (port, latest visits) ∷ []))
  where
    go : (b : Bool) → (matches visits job ports local (local.held ++ (port, latest visits) ∷ []) b).services ≡ []
    go false = refl
    go true = refl

pub join-laws : (rows : Rows) (ports : ℕ) → KindLaws rows ports join (join-inside ports)
join-laws rows ports =
    record {
      opens = λ columns v sound many. joined-opens ports (some-ports ports many);
      waits = λ v s area busy fs now later l h. h;
      arrives = λ v port s fs now x at by fit soon h.
          subst (λ l. Joined ports (s.visits ++ x ∷ []) (join_on ports (s.visits ++ x ∷ []) s.local (Arrive now v port x.job)).local.held (s.emitted ++ emissions_of now (s.visits ++ x ∷ []) (join_on ports (s.visits ++ x ∷ []) s.local (Arrive now v port x.job)).releases) (fs ++ finishes_of v l)) (sym (join-quiet ports now v port x.job s.local (s.visits ++ x ∷ [])))
          (subst (λ q. Joined ports (s.visits ++ x ∷ []) (join_on ports (s.visits ++ x ∷ []) s.local (Arrive now v q x.job)).local.held (s.emitted ++ emissions_of now (s.visits ++ x ∷ []) (join_on ports (s.visits ++ x ∷ []) s.local (Arrive now v q x.job)).releases) (fs ++ [])) by
          (joined-arrives ports now v s.local s.visits s.emitted fs x at (let some = h.joining.some in omega arith) h));
      ends = λ rank v server position s fs rest now first h. absurd (no_finish rank fs rest _ h.joining.none first);
      flow = λ v s now h. h.left;
      number = λ v s fs now h. h.number;
      shows = λ rank v server position s fs rest now first h. absurd (no_finish rank fs rest _ h.joining.none first);
      empty = λ leave. absurd cc;
      vacant = refl;
      enters = λ v port s fs now x at f. join-enters ports now v port x.job s.local (s.visits ++ x ∷ []) f.joining.some;
      leaves = λ rank v server position s fs rest now first h. omega arith;
      weightless = λ onward. refl;
      adds = λ onward v port job s visits fs now f. let l = times-one _ onward (join-few ports now v port job s.local visits) in omega arith;
      takes = λ onward rank v server position s fs rest now first f. absurd (no_finish rank fs rest _ f.joining.none first);
      idle = λ v. refl;
      works = λ v area s fs now later l f h b. omega arith;
      busy_arrives = λ v port s fs now x at soon h b. b;
      busy_ends = λ rank v server position s fs rest now first h b. absurd (no_finish rank fs rest _ h.joining.none first);
      served = λ v s now h k. k ∙ no-service (length s.visits) _ _;
    }
