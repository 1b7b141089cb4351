-- How the branches of a fork-join are read.
use Rattle.std.proofs.Common.{◌≡◌, ◌∙◌, refl, ℕ, zero, suc, ◌-◌, ◌<◌, List, [], ◌∷◌, length, true, false, Result, Ok, Err, inl, inr, arith}
use Rattle.std.specs.Prelude.{◌≤◌, codes, min, nat_lt}
use Rattle.std.proofs.lemmas.Bool.{cases_Bool, lt-ltb}
use Rattle.std.proofs.lemmas.Grind.{common_steps}
use Rattle.mq_model.specs.Form.{◌>>=◌, Word, read, stop, up_to}
use Rattle.mq_model.specs.Lines.{a_branch, a_demand, all_branches, branches, demand_of, is_demand, is_key, key, room_of}
use Rattle.mq_model.specs.declared.said.SaidDemand.{SaidDemand}
use Rattle.mq_model.proofs.FormFacts.{read_then}
use Rattle.mq_model.specs.Reading.{with_front}
use Rattle.mq_model.proofs.ReadFacts.{front_of, front_of_second, one_or_more, one_then, read_word_no, read_word_yes}
use Rattle.mq_model.proofs.StageFacts.{front_of_two}

-- a branch
pub branch_first : (left : ℕ) (all rest : List Word) (first : SaidDemand) → read a_demand all ≡ Ok (first, rest) → read (a_branch left) all ≡ with_front (first ∷ []) (read (up_to (room_of left) is_demand demand_of) rest)
unfolding read a_branch
branch_first left all rest first own = rw (read_then, own, read_then) (front_of first (read (up_to (room_of left) is_demand demand_of) rest))

-- further branches
pub branches_zero : (left : ℕ) (ws : List Word) → read (branches 0 left) ws ≡ Ok ([], ws)
unfolding read branches
branches_zero left ws = refl

pub branches_full : (n : ℕ) (ws : List Word) → read (branches n 0) ws ≡ Ok ([], ws)
unfolding read branches
branches_full zero ws = refl
branches_full (suc n) ws = refl

pub branches_none : (n left : ℕ) (all : List Word) → all ≡ [] → read (branches n left) all ≡ Ok ([], all)
unfolding read branches
branches_none zero left all h = refl
branches_none (suc n) left all h = elim (cases_Bool (nat_lt 0 left)) [ inl some ↦ rw (some, h) refl | inr none ↦ rw none refl ]

pub branches_no : (n left : ℕ) (all ws : List Word) (w : Word) → all ≡ w ∷ ws → is_key (124 ∷ []) w ≡ false → read (branches n left) all ≡ Ok ([], all)
unfolding read branches
branches_no zero left all ws w e h = refl
branches_no (suc n) left all ws w e h = elim (cases_Bool (nat_lt 0 left)) [ inl some ↦ rw (some, e, h) refl | inr none ↦ rw none refl ]

pub branches_yes : (n left : ℕ) (all ws rest : List Word) (w : Word) (demands : List SaidDemand) → 0 < n → 0 < left → all ≡ w ∷ ws → is_key (124 ∷ []) w ≡ true → read (a_branch left) ws ≡ Ok (demands, rest)
    → read (branches n left) all ≡ with_front (demands ∷ []) (read (branches (n - 1) (left - length demands)) rest)
unfolding read branches
branches_yes zero left all ws rest w demands some room e h own = absurd (omega arith)
branches_yes (suc n) left all ws rest w demands some room e h own =
    let back : suc n - 1 ≡ n = omega arith in
    rw (back, lt-ltb 0 left room, e, h, read_then (a_branch left) (λ b. branches n (left - length b) >>= λ more. stop (b ∷ more)) ws, own, read_then (branches n (left - length demands)) (λ more. stop (demands ∷ more)) rest)
    (front_of demands (read (branches n (left - length demands)) rest))

pub branches_fault : (n left : ℕ) (all ws l : List Word) (w : Word) → 0 < n → 0 < left → all ≡ w ∷ ws → is_key (124 ∷ []) w ≡ true → read (a_branch left) ws ≡ Err l → read (branches n left) all ≡ Err l
unfolding read branches
branches_fault zero left all ws l w some room e h own = absurd (omega arith)
branches_fault (suc n) left all ws l w some room e h own = rw (lt-ltb 0 left room, e, h, read_then (a_branch left) (λ b. branches n (left - length b) >>= λ more. stop (b ∷ more)) ws, own) refl

-- all branches
pub all_two : (all ws vs rest : List Word) (first second : List SaidDemand) → read (a_branch 8) all ≡ Ok (first, ws) → read (key (codes "|")) ws ≡ Ok (tt, vs) → read (a_branch (8 - length first)) vs ≡ Ok (second, rest)
    → read all_branches all ≡ with_front (first ∷ second ∷ []) (read (branches 6 (8 - length first - length second)) rest)
unfolding read all_branches
all_two all ws vs rest first second own bar other = rw (read_then, own, read_then, bar, read_then, other, read_then) (front_of_two first second (read (branches 6 (8 - length first - length second)) rest))

pub all_no_first : (all l : List Word) → read (a_branch 8) all ≡ Err l → read all_branches all ≡ Err l
unfolding read all_branches
all_no_first all l own = rw (read_then, own) refl

pub all_no_bar : (all ws l : List Word) (first : List SaidDemand) → read (a_branch 8) all ≡ Ok (first, ws) → read (key (codes "|")) ws ≡ Err l → read all_branches all ≡ Err l
unfolding read all_branches
all_no_bar all ws l first own bar = rw (read_then, own, read_then, bar) refl

pub all_no_second : (all ws vs l : List Word) (first : List SaidDemand) → read (a_branch 8) all ≡ Ok (first, ws) → read (key (codes "|")) ws ≡ Ok (tt, vs) → read (a_branch (8 - length first)) vs ≡ Err l → read all_branches all ≡ Err l
unfolding read all_branches
all_no_second all ws vs l first own bar other = rw (read_then, own, read_then, bar, read_then, other) refl

-- how many demands a branch has at most
pub most_of : (left : ℕ) → 1 ≤ left → min left 4 ≡ suc (room_of left)
most_of left some = grind (arith, common_steps)

-- a branch is one demand or more
pub branch_by : (left most : ℕ) (ws : List Word) → most ≡ suc (room_of left) → read (a_branch left) ws ≡ one_or_more (read (up_to most is_demand demand_of) ws)
unfolding a_branch
branch_by left most ws same = rw same (one_then (room_of left) is_demand demand_of ws)

behind_bar : (all ws vs : List Word) (w : Word) (first : List SaidDemand) → length first < 8 → read (a_branch 8) all ≡ Ok (first, ws) → ws ≡ w ∷ vs → is_key (124 ∷ []) w ≡ true
    → (own : Result (List SaidDemand × List Word) (List Word)) → read (a_branch (8 - length first)) vs ≡ own
    → read all_branches all ≡ with_front (first ∷ []) (one_or_more (read (branches 7 (8 - length first)) ws))
unfolding read
behind_bar all ws vs w first few own e bar (Ok (second, rest)) h =
    all_two all ws vs rest first second own (read_word_yes (is_key (124 ∷ [])) (λ _. stop tt) ws vs w e bar) h
    ∙ rw (branches_yes 7 (8 - length first) ws vs rest w second (omega arith) (omega arith) e bar h) (front_of_second first second (read (branches 6 (8 - length first - length second)) rest))
behind_bar all ws vs w first few own e bar (Err left) h =
    all_no_second all ws vs left first own (read_word_yes (is_key (124 ∷ [])) (λ _. stop tt) ws vs w e bar) h
    ∙ rw (branches_fault 7 (8 - length first) ws vs left w (omega arith) (omega arith) e bar h) refl

-- the branches behind the first are one or more
pub all_by : (all ws : List Word) (first : List SaidDemand) → length first < 8 → read (a_branch 8) all ≡ Ok (first, ws) → read all_branches all ≡ with_front (first ∷ []) (one_or_more (read (branches 7 (8 - length first)) ws))
unfolding read
all_by all [] first few own = all_no_bar all [] [] first own refl ∙ rw (branches_none 7 (8 - length first) [] refl) refl
all_by all (w ∷ vs) first few own =
    elim (cases_Bool (is_key (124 ∷ []) w)) [
      | inl good ↦ behind_bar all (w ∷ vs) vs w first few own refl good (read (a_branch (8 - length first)) vs) refl
      | inr bad ↦ all_no_bar all (w ∷ vs) (w ∷ vs) first own (read_word_no (is_key (124 ∷ [])) (λ _. stop tt) (w ∷ vs) vs w refl bad) ∙ rw (branches_no 7 (8 - length first) (w ∷ vs) vs w refl bad) refl
    ]
