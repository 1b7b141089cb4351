-- The inputs of lines, one by one.
use Rattle.std.proofs.Common.{◌≡◌, ◌≢◌, ◌∙◌, sym, ap, refl, subst, ℕ, zero, suc, ◌+◌, ◌-◌, ◌<◌, ◌≤◌, List, [], ◌∷◌, ◌++◌, length, drop, take, map, get_or, Bool, true, false, Option, Some, None, arith, append_assoc, append-nil}
use Rattle.std.specs.Prelude.{◌||◌, nat_lt}
use Rattle.std.specs.List.{flat_map, list_any, enumerate_from}
use Rattle.std.proofs.lemmas.Grind.{common_steps, flat_map-append}
use Rattle.std.proofs.Math.Numerals.{add-one}
use Rattle.std.proofs.Math.Seq.{drop-cons}
use Rattle.std.proofs.lemmas.List.{take_more}
use Rattle.std.specs.List.{cons_option}
use Rattle.std.proofs.lemmas.List.Folds.{list_any-append}
use Rattle.mq_model.specs.Model.{PlacedInput, inputs_fault, node_line_at, reads_of_line}
use Rattle.mq_model.specs.NetworkOf.{said_of, saids_of}
use Rattle.mq_model.specs.Front.{numbers_from}
use Rattle.mq_model.specs.Placed.{AreNarrow, FaultOfReads, declaring, placed_from, placed_inputs}
use Rattle.mq_model.specs.Said.{declared, gives, is_same_input, reads_of}
use Rattle.mq_model.specs.declared.fault.ModelFault.{ModelFault}
use Rattle.mq_model.specs.declared.fault.ModelFault.TheVariants.{OutputTaken, UnknownInput}
use Rattle.mq_model.specs.declared.said.SaidInput.{SaidInput}
use Rattle.mq_model.specs.declared.said.Said.{Said}
use Rattle.mq_model.specs.declared.said.Said.TheVariants.{Bound, Node}

-- one input
pub unknown_here : (saids : List Said) (taken : List SaidInput) (n port : ℕ) (input : SaidInput) (reads : List SaidInput) (more : List PlacedInput) → list_any (gives input) saids ≡ false
    → inputs_fault saids taken (placed_from n port (input ∷ reads) ++ more) ≡ Some (UnknownInput n port)
unfolding inputs_fault
unknown_here saids taken n port input reads more h = rw h refl

pub taken_here : (saids : List Said) (taken : List SaidInput) (n port : ℕ) (input : SaidInput) (reads : List SaidInput) (more : List PlacedInput) → list_any (gives input) saids ≡ true
    → list_any (is_same_input input) taken ≡ true → inputs_fault saids taken (placed_from n port (input ∷ reads) ++ more) ≡ Some (OutputTaken n port)
unfolding inputs_fault
taken_here saids taken n port input reads more given h = rw (given, h) refl

pub fine_here : (saids : List Said) (taken : List SaidInput) (n port : ℕ) (input : SaidInput) (reads : List SaidInput) (more : List PlacedInput) → list_any (gives input) saids ≡ true
    → list_any (is_same_input input) taken ≡ false
    → inputs_fault saids taken (placed_from n port (input ∷ reads) ++ more) ≡ inputs_fault saids (taken ++ input ∷ []) (placed_from n (port + 1) reads ++ more)
unfolding inputs_fault
fine_here saids taken n port input reads more given h = rw (given, h) refl

pub any_read : (p : SaidInput → Bool) (saids : List Said) → list_any p (flat_map reads_of saids) ≡ list_any (λ said. list_any p (reads_of said)) saids
any_read p [] = refl
any_read p (said ∷ saids) = list_any-append p (reads_of said) (flat_map reads_of saids) ∙ ap (λ b. list_any p (reads_of said) || b) (any_read p saids)

-- the item at an index
pub item_at : {A : Type 0} (xs : List A) (i : ℕ) (x : A) → i < length xs → x ≡ get_or xs i x → (drop i xs ≡ x ∷ drop (i + 1) xs) × (take (i + 1) xs ≡ take i xs ++ x ∷ [])
item_at xs i x less is =
    (rw add-one (drop-cons xs i x less) ∙ ap (λ y. y ∷ drop (i + 1) xs) (sym is), take_more xs i x less ∙ ap (λ y. take i xs ++ y ∷ []) (sym is))

pub unknown_input : (saids before : List Said) (reads : List SaidInput) (n port : ℕ) (input : SaidInput) (more : List PlacedInput) → port < length reads → input ≡ get_or reads port input → list_any (gives input) saids ≡ false
    → inputs_fault saids (flat_map reads_of before ++ take port reads) (placed_from n port (drop port reads) ++ more) ≡ Some (UnknownInput n port)
unknown_input saids before reads n port input more less here h =
    rw ((item_at reads port input less here).0) (unknown_here saids (flat_map reads_of before ++ take port reads) n port input (drop (port + 1) reads) more h)

taken_is : (before : List Said) (reads : List SaidInput) (input : SaidInput) (b : Bool) → (list_any (λ said. list_any (is_same_input input) (reads_of said)) before || list_any (is_same_input input) reads) ≡ b
    → list_any (is_same_input input) (flat_map reads_of before ++ reads) ≡ b
taken_is before reads input b h = list_any-append (is_same_input input) (flat_map reads_of before) reads ∙ ap (λ a. a || list_any (is_same_input input) reads) (any_read (is_same_input input) before) ∙ h

pub taken_input : (saids before : List Said) (reads : List SaidInput) (n port : ℕ) (input : SaidInput) (more : List PlacedInput) → port < length reads → input ≡ get_or reads port input → list_any (gives input) saids ≡ true
    → (list_any (λ said. list_any (is_same_input input) (reads_of said)) before || list_any (is_same_input input) (take port reads)) ≡ true
    → inputs_fault saids (flat_map reads_of before ++ take port reads) (placed_from n port (drop port reads) ++ more) ≡ Some (OutputTaken n port)
taken_input saids before reads n port input more less here given h =
    rw ((item_at reads port input less here).0) (taken_here saids (flat_map reads_of before ++ take port reads) n port input (drop (port + 1) reads) more given (taken_is before (take port reads) input true h))

pub fine_input : (saids before : List Said) (reads : List SaidInput) (n port : ℕ) (input : SaidInput) (more : List PlacedInput) → port < length reads → input ≡ get_or reads port input → list_any (gives input) saids ≡ true
    → (list_any (λ said. list_any (is_same_input input) (reads_of said)) before || list_any (is_same_input input) (take port reads)) ≡ false
    → inputs_fault saids (flat_map reads_of before ++ take port reads) (placed_from n port (drop port reads) ++ more)
    ≡ inputs_fault saids (flat_map reads_of before ++ take (port + 1) reads) (placed_from n (port + 1) (drop (port + 1) reads) ++ more)
fine_input saids before reads n port input more less here given h =
    let at = item_at reads port input less here in
    rw (at.0, at.1, sym (append_assoc (flat_map reads_of before) (take port reads) (input ∷ [])))
    (fine_here saids (flat_map reads_of before ++ take port reads) n port input (drop (port + 1) reads) more given (taken_is before (take port reads) input false h))

-- lines
pub narrow_at : (saids : List Said) (at : ℕ) (said d : Said) → AreNarrow saids → at < length saids → said ≡ get_or saids at d → length (reads_of said) ≤ 8
narrow_at [] at said d narrow less h = absurd (omega arith)
narrow_at (x ∷ saids) zero said d narrow less h = rw h narrow.0
narrow_at (x ∷ saids) (suc at) said d narrow less h = narrow_at saids at said d narrow.1 (omega arith) h

pub no_inputs : (saids : List Said) (taken : List SaidInput) → inputs_fault saids taken [] ≡ None
unfolding inputs_fault
no_inputs saids taken = refl

placed_here : (saids : List Said) (lines : List ℕ) (at n : ℕ) (said : Said) → at < length saids → length lines ≡ length saids → said ≡ get_or saids at said → n ≡ get_or lines at 0
    → placed_inputs (drop at lines) (drop at saids) ≡ placed_from n 0 (reads_of said) ++ placed_inputs (drop (at + 1) lines) (drop (at + 1) saids)
placed_here saids lines at n said less beside is number =
    let first = (item_at saids at said less is).0 in
    let second : drop at lines ≡ n ∷ drop (at + 1) lines = rw (add-one, number) (drop-cons lines at 0 (omega arith)) in
    rw (first, second) refl

reads_more : (saids : List Said) (at : ℕ) (said : Said) → at < length saids → said ≡ get_or saids at said → flat_map reads_of (take (at + 1) saids) ≡ flat_map reads_of (take at saids) ++ reads_of said
reads_more saids at said less is =
    rw ((item_at saids at said less is).1) (flat_map-append reads_of (take at saids) (said ∷ []) ∙ ap (λ more. flat_map reads_of (take at saids) ++ more) (append-nil (reads_of said)))

pub line_fine : (saids : List Said) (lines : List ℕ) (at n : ℕ) (said : Said) → at < length saids → length lines ≡ length saids → said ≡ get_or saids at said → n ≡ get_or lines at 0
    → FaultOfReads None saids (flat_map reads_of (take at saids)) n 0 (reads_of said)
    → inputs_fault saids (flat_map reads_of (take at saids)) (placed_inputs (drop at lines) (drop at saids))
    ≡ inputs_fault saids (flat_map reads_of (take (at + 1) saids)) (placed_inputs (drop (at + 1) lines) (drop (at + 1) saids))
line_fine saids lines at n said less beside is number none =
    rw (placed_here saids lines at n said less beside is number, reads_more saids at said less is) (none (placed_inputs (drop (at + 1) lines) (drop (at + 1) saids)))

pub line_faulty : (saids : List Said) (lines : List ℕ) (at n : ℕ) (said : Said) (e : ModelFault) → at < length saids → length lines ≡ length saids → said ≡ get_or saids at said → n ≡ get_or lines at 0
    → FaultOfReads (Some e) saids (flat_map reads_of (take at saids)) n 0 (reads_of said)
    → inputs_fault saids (flat_map reads_of (take at saids)) (placed_inputs (drop at lines) (drop at saids)) ≡ Some e
line_faulty saids lines at n said e less beside is number fault =
    rw (placed_here saids lines at n said less beside is number) (fault (placed_inputs (drop (at + 1) lines) (drop (at + 1) saids)))

placed_none : (lines : List ℕ) → placed_inputs lines [] ≡ []
placed_none [] = refl
placed_none (n ∷ lines) = refl

pub lines_fine : (saids : List Said) (lines : List ℕ) (taken : List SaidInput) (at : ℕ) → length saids ≤ at → inputs_fault saids taken (placed_inputs (drop at lines) (drop at saids)) ≡ None
lines_fine saids lines taken at h =
    let none : drop at saids ≡ [] = grind (arith, common_steps, h) in
    rw (none, placed_none (drop at lines)) (no_inputs saids taken)

-- what is kept of lines, and the definitions over lines
pub placed_are : (n : ℕ) (ls : List (List ℕ)) → placed_inputs (numbers_from n ls) (saids_of ls) ≡ flat_map reads_of_line (enumerate_from n ls)
placed_are n [] = refl
placed_are n (l ∷ ls) = by_said (said_of l) (subst (λ m. placed_inputs (numbers_from (suc n) ls) (saids_of ls) ≡ flat_map reads_of_line (enumerate_from m ls)) (sym (add-one n)) (placed_are (suc n) ls))
  where
    by_said : (o : Option Said) → placed_inputs (numbers_from (suc n) ls) (saids_of ls) ≡ flat_map reads_of_line (enumerate_from (n + 1) ls)
        → placed_inputs (elim o [ None ↦ numbers_from (suc n) ls | Some said ↦ n ∷ numbers_from (suc n) ls ]) (cons_option o (saids_of ls))
        ≡ elim o as (λ _. List PlacedInput) [ None ↦ [] | Some said ↦ map (λ (port, input). (n, port, input)) (enumerate_from 0 (reads_of said)) ] ++ flat_map reads_of_line (enumerate_from (n + 1) ls)
    by_said None h = h
    by_said (Some said) h = ap (λ more. placed_from n 0 (reads_of said) ++ more) h

pub declaring_are : (n : ℕ) (ls : List (List ℕ)) → declaring (numbers_from n ls) (saids_of ls) ≡ flat_map node_line_at (enumerate_from n ls)
declaring_are n [] = refl
declaring_are n (l ∷ ls) = by_said (said_of l) (subst (λ m. declaring (numbers_from (suc n) ls) (saids_of ls) ≡ flat_map node_line_at (enumerate_from m ls)) (sym (add-one n)) (declaring_are (suc n) ls))
  where
    by_said : (o : Option Said) → declaring (numbers_from (suc n) ls) (saids_of ls) ≡ flat_map node_line_at (enumerate_from (n + 1) ls)
        → declaring (elim o [ None ↦ numbers_from (suc n) ls | Some said ↦ n ∷ numbers_from (suc n) ls ]) (cons_option o (saids_of ls))
        ≡ elim o as (λ _. List ℕ) [ None ↦ [] | Some said ↦ map (λ name. n) (declared said) ] ++ flat_map node_line_at (enumerate_from (n + 1) ls)
    by_said None h = h
    by_said (Some said) h = ap (λ more. map (λ name. n) (declared said) ++ more) h

pub beside_are : (n : ℕ) (ls : List (List ℕ)) → length (numbers_from n ls) ≡ length (saids_of ls)
beside_are n [] = refl
beside_are n (l ∷ ls) = by_said (said_of l) (beside_are (suc n) ls)
  where
    by_said : (o : Option Said) → length (numbers_from (suc n) ls) ≡ length (saids_of ls)
        → length (elim o as (λ _. List ℕ) [ None ↦ numbers_from (suc n) ls | Some said ↦ n ∷ numbers_from (suc n) ls ]) ≡ length (cons_option o (saids_of ls))
    by_said None h = h
    by_said (Some said) h = ap suc h

-- the line of a node
declaring_here : (saids : List Said) (lines : List ℕ) (at n : ℕ) (said : Said) → at < length saids → length lines ≡ length saids → said ≡ get_or saids at said → n ≡ get_or lines at 0
    → declaring (drop at lines) (drop at saids) ≡ map (λ name. n) (declared said) ++ declaring (drop (at + 1) lines) (drop (at + 1) saids)
declaring_here saids lines at n said less beside is number =
    let first = (item_at saids at said less is).0 in
    let second : drop at lines ≡ n ∷ drop (at + 1) lines = rw (add-one, number) (drop-cons lines at 0 (omega arith)) in
    rw (first, second) refl

pub line_later : (saids : List Said) (lines : List ℕ) (at n left : ℕ) (said : Said) → at < length saids → length lines ≡ length saids → said ≡ get_or saids at said → n ≡ get_or lines at 0
    → nat_lt 0 (length (declared said)) ≡ true → left ≢ 0 → get_or (declaring (drop at lines) (drop at saids)) left 0 ≡ get_or (declaring (drop (at + 1) lines) (drop (at + 1) saids)) (left - 1) 0
line_later saids lines at n zero said less beside is number node some = absurd (some refl)
line_later saids lines at n (suc left) (Bound b) less beside is number node some = absurd (cc)
line_later saids lines at n (suc left) (Node name kind reads) less beside is number node some =
    let back : suc left - 1 ≡ left = omega arith in
    rw (declaring_here saids lines at n (Node name kind reads) less beside is number, back) refl

pub line_of_none : (saids : List Said) (lines : List ℕ) (at n left : ℕ) (said : Said) → at < length saids → length lines ≡ length saids → said ≡ get_or saids at said → n ≡ get_or lines at 0
    → nat_lt 0 (length (declared said)) ≡ false → get_or (declaring (drop at lines) (drop at saids)) left 0 ≡ get_or (declaring (drop (at + 1) lines) (drop (at + 1) saids)) left 0
line_of_none saids lines at n left (Bound b) less beside is number none = rw (declaring_here saids lines at n (Bound b) less beside is number) refl
line_of_none saids lines at n left (Node name kind reads) less beside is number none = absurd (cc)
