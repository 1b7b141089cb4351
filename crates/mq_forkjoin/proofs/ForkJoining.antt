-- The later of two departures, and branch before branch.
use Rattle.std.proofs.Common.{◌≡◌, ℕ, zero, suc, ◌+◌, ◌-◌, ◌<◌, ◌≤◌, ◌^◌, List, [], ◌∷◌, ◌++◌, All, length, take, drop, Some, refl, sym, ap, ◌∙◌, arith, append_assoc, max, subst, sum}
use Rattle.std.specs.Prelude.{slice_get}
use Rattle.std.proofs.lemmas.List.{append-nil, drop_all, drop-drop}
use Rattle.std.proofs.lemmas.List.Elements.{All-get_or, All-head, All-tail, All-weaker, All-drop, All-take}
use Rattle.mq_base.proofs.lemmas.Lists.{drop_at, sum-cons}
use Rattle.mq_core.specs.Sequences.{IsSoundLoad}
use Rattle.mq_core.specs.Recurrences.{lindley, in_series, later_of, forkjoin_departs}
use Rattle.mq_forkjoin.specs.Branches.{AreBranches, branches_of}
use Rattle.mq_forkjoin.proofs.Recurrence.{length-lindley}

-- the later times so far with those of what is left, one index further
pub later-next : (done done' all one other : List ℕ) (time i a b : ℕ) → time ≡ max a b → slice_get one i ≡ Some a → slice_get other i ≡ Some b → done' ≡ done ++ time ∷ [] →
    done ++ later_of (drop i one) (drop i other) ≡ all → done' ++ later_of (drop (i + 1) one) (drop (i + 1) other) ≡ all
later-next done done' all one other time i a b m x y p h =
    ap (λ xs. xs ++ later_of (drop (i + 1) one) (drop (i + 1) other)) p
    ∙ (append_assoc done _ _
    ∙ (ap (λ t. done ++ t ∷ later_of (drop (i + 1) one) (drop (i + 1) other)) m ∙ (sym (λ k. done ++ later_of (drop_at one i a x k) (drop_at other i b y k)) ∙ h)))

-- at the end nothing is left
pub later-all : (done all one other : List ℕ) (i : ℕ) → length one ≤ i → done ++ later_of (drop i one) (drop i other) ≡ all → done ≡ all
later-all done all one other i l h = sym (append-nil done) ∙ (ap (λ xs. done ++ later_of xs (drop i other)) (sym (drop_all i one l)) ∙ h)

pub length-later_of : (one other : List ℕ) → length one ≡ length other → length (later_of one other) ≡ length one
length-later_of [] other h = refl
length-later_of (a ∷ one) [] h = absurd (omega arith)
length-later_of (a ∷ one) (b ∷ other) h = ap suc (length-later_of one other (omega arith))

-- What is kept of the branches: the departures from this branch on, whose servers begin here.
pub record ForkJoining (arrive departs : List ℕ) (demands : List (List ℕ)) (branches : List ℕ) (branch server : ℕ) : Type 0 where
  pub so_far : departs ≡ forkjoin_departs arrive (branches_of (drop branch branches) (drop server demands))
  pub many : length departs ≡ length arrive
  pub inside : branch ≤ length branches
  pub here : server + sum (drop branch branches) ≡ length demands

length-in_series : (arrive : List ℕ) (branch : List (List ℕ)) → All (λ column. length column ≡ length arrive) branch → length (in_series arrive branch) ≡ length arrive
length-in_series arrive [] h = refl
length-in_series arrive (column ∷ more) h =
    let first = length-lindley 0 arrive column (All-head (λ column. length column ≡ length arrive) column more h) in
    length-in_series (lindley 0 arrive column) more (subst (λ n. All (λ column. length column ≡ n) more) (sym first) (All-tail (λ column. length column ≡ length arrive) column more h)) ∙ first

sum-drop_le : (xs : List ℕ) (i : ℕ) → sum (drop i xs) ≤ sum xs
sum-drop_le [] zero = omega arith
sum-drop_le [] (suc i) = omega arith
sum-drop_le (x ∷ xs) zero = omega arith
sum-drop_le (x ∷ xs) (suc i) = let ih = sum-drop_le xs i in let e = sum-cons x xs in omega arith

-- the branches from the one before, whose servers are these many
before : (branches : List ℕ) (branch servers : ℕ) → 0 < branch → slice_get branches (branch - 1) ≡ Some servers → drop (branch - 1) branches ≡ servers ∷ drop branch branches
before branches branch servers l h = let next : branch - 1 + 1 ≡ branch = omega arith in drop_at branches (branch - 1) servers h ∙ ap (λ n. servers ∷ drop n branches) next

sum-before : (branches : List ℕ) (branch servers : ℕ) → 0 < branch → slice_get branches (branch - 1) ≡ Some servers → sum (drop (branch - 1) branches) ≡ servers + sum (drop branch branches)
sum-before branches branch servers l h = ap sum (before branches branch servers l h) ∙ sum-cons servers (drop branch branches)

-- the servers of the branch before are among those before
pub servers-fit : (arrive departs : List ℕ) (demands : List (List ℕ)) (branches : List ℕ) (branch server servers : ℕ) → AreBranches branches demands → 0 < branch → slice_get branches (branch - 1) ≡ Some servers → ForkJoining arrive departs demands branches branch server →
    servers ≤ server
servers-fit arrive departs demands branches branch server servers are l at h =
    let all = sum-before branches branch servers l at in
    let part = sum-drop_le branches (branch - 1) in
    let each = are.each in
    let here = h.here in
    omega arith

-- the demands of one server at least say when the jobs come
pub early : (arrive : List ℕ) (demands : List (List ℕ)) (branches : List ℕ) → AreBranches branches demands → All (λ column. IsSoundLoad arrive column) demands → All (λ time. time ≤ 2 ^ 60) arrive
early arrive demands branches are load = (All-get_or (λ column. IsSoundLoad arrive column) demands 0 [] one load).early
  where
    served : (servers : List ℕ) → 1 ≤ length servers → All (λ n. 1 ≤ n) servers → 1 ≤ sum servers
    served [] l k = absurd (omega arith)
    served (n ∷ ns) l k = let a = All-head (λ n. 1 ≤ n) n ns k in let e = sum-cons n ns in omega arith

    one : 0 < length demands
    one = let a = served branches are.some are.served in let e = are.each in omega arith

-- one branch has a load too
pub part-load : (arrive : List ℕ) (demands : List (List ℕ)) (first servers : ℕ) → All (λ column. IsSoundLoad arrive column) demands → All (λ column. IsSoundLoad arrive column) (take servers (drop first demands))
part-load arrive demands first servers load = All-take (IsSoundLoad arrive) servers (drop first demands) (All-drop (IsSoundLoad arrive) first demands load)

pub length-branch : (arrive through : List ℕ) (demands : List (List ℕ)) (first servers : ℕ) → All (λ column. IsSoundLoad arrive column) demands → through ≡ in_series arrive (take servers (drop first demands)) → length through ≡ length arrive
length-branch arrive through demands first servers load e =
    ap length e
    ∙ length-in_series arrive _ (All-weaker (λ column. IsSoundLoad arrive column) (λ column. length column ≡ length arrive) (λ column k. k.each) _ (part-load arrive demands first servers load))

-- the last branch is before none
pub forkjoining-begins : (arrive departs : List ℕ) (demands : List (List ℕ)) (branches : List ℕ) (branch server : ℕ) → departs ≡ arrive → branch ≡ length branches → server ≡ length demands → ForkJoining arrive departs demands branches branch server
forkjoining-begins arrive departs demands branches branch server e b s =
    let none : drop branch branches ≡ [] = drop_all branch branches (omega arith) in
    record {
      so_far = e ∙ ap (λ left. forkjoin_departs arrive (branches_of left (drop server demands))) (sym none);
      many = ap length e;
      inside = omega arith;
      here = ap (λ left. server + sum left) none ∙ omega arith;
    }

-- one branch more
pub forkjoining-next : (arrive departs departs' through : List ℕ) (demands : List (List ℕ)) (branches : List ℕ) (branch server servers : ℕ) → AreBranches branches demands → All (λ column. IsSoundLoad arrive column) demands → 0 < branch →
    slice_get branches (branch - 1) ≡ Some servers → through ≡ in_series arrive (take (server - (server - servers)) (drop (server - servers) demands)) → departs' ≡ later_of through departs → ForkJoining arrive departs demands branches branch server →
    ForkJoining arrive departs' demands branches (branch - 1) (server - servers)
forkjoining-next arrive departs departs' through demands branches branch server servers are load l at t e h =
    let fit = servers-fit arrive departs demands branches branch server servers are l at h in
    let these : server - (server - servers) ≡ servers = omega arith in
    let behind : server - servers + servers ≡ server = omega arith in
    let long = length-branch arrive through demands (server - servers) _ load t in
    let many = h.many in
    let within = h.inside in
    let all = sum-before branches branch servers l at in
    let here = h.here in
    let rest : drop servers (drop (server - servers) demands) ≡ drop server demands = drop-drop servers (server - servers) demands ∙ ap (λ n. drop n demands) behind in
    record {
      so_far =
          e
          ∙ ((λ k. later_of ((t ∙ ap (λ n. in_series arrive (take n (drop (server - servers) demands))) these) k) (h.so_far k))
          ∙ (ap (λ left. later_of (in_series arrive (take servers (drop (server - servers) demands))) (forkjoin_departs arrive (branches_of (drop branch branches) left))) (sym rest)
          ∙ ap (λ left. forkjoin_departs arrive (branches_of left (drop (server - servers) demands))) (sym (before branches branch servers l at))));
      many = ap length e ∙ (length-later_of through departs (long ∙ sym many) ∙ long);
      inside = omega arith;
      here = omega arith;
    }

-- before the first branch is no server
pub forkjoining-ends : (arrive departs : List ℕ) (demands : List (List ℕ)) (branches : List ℕ) (branch server : ℕ) → AreBranches branches demands → branch ≤ 0 → ForkJoining arrive departs demands branches branch server → departs ≡ forkjoin_departs arrive (branches_of branches demands)
forkjoining-ends arrive departs demands branches branch server are l h =
    let none : branch ≡ 0 = omega arith in
    let all : sum (drop branch branches) ≡ sum branches = ap (λ n. sum (drop n branches)) none in
    let each = are.each in
    let here = h.here in
    let first : server ≡ 0 = omega arith in
    h.so_far ∙ (λ k. forkjoin_departs arrive (branches_of (drop (none k) branches) (drop (first k) demands)))
