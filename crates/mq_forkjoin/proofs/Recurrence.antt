-- Servers in series: one after the other, and the bound on what they give.
use Rattle.std.proofs.Common.{◌≡◌, ℕ, suc, ◌+◌, ◌*◌, ◌^◌, ◌<◌, ◌≤◌, List, [], ◌∷◌, All, length, get_or, drop, Some, refl, sym, ap, ◌∙◌, arith, max, subst}
use Rattle.std.specs.Prelude.{slice_get}
use Rattle.std.proofs.lemmas.List.{drop_all}
use Rattle.std.proofs.lemmas.List.Elements.{All-get_or, All-nil, All-cons, All-head, All-tail, All-weaker}
use Rattle.mq_base.proofs.lemmas.Lists.{drop_at}
use Rattle.mq_core.specs.Sequences.{IsSoundLoad}
use Rattle.mq_core.specs.Recurrences.{lindley, in_series}
use Rattle.mq_forkjoin.specs.Branches.{Passing}

-- there are as many departures as arrivals
pub length-lindley : (last : ℕ) (times demands : List ℕ) → length demands ≡ length times → length (lindley last times demands) ≡ length times
length-lindley last [] demands h = refl
length-lindley last (time ∷ times) [] h = absurd (omega arith)
length-lindley last (time ∷ times) (demand ∷ demands) h = ap suc (length-lindley (max time last + demand) times demands (omega arith))

-- no departure is later than the latest arrival and all demands
latest : (top done last : ℕ) (times demands : List ℕ) → last ≤ top + done * 2 ^ 36 → All (λ t. t ≤ top) times → All (λ d. d ≤ 2 ^ 36) demands → All (λ t. t ≤ top + (done + length times) * 2 ^ 36) (lindley last times demands)
latest top done last [] demands l ts ds = All-nil _
latest top done last (time ∷ times) [] l ts ds = All-nil _
latest top done last (time ∷ times) (demand ∷ demands) l ts ds =
    let a : time ≤ top = All-head (λ t. t ≤ top) time times ts in
    let b : demand ≤ 2 ^ 36 = All-head (λ d. d ≤ 2 ^ 36) demand demands ds in
    let now : max time last + demand ≤ top + (done + 1) * 2 ^ 36 = omega arith in
    let many : done + 1 + length times ≡ done + suc (length times) = omega arith in
    let first : max time last + demand ≤ top + (done + suc (length times)) * 2 ^ 36 = omega arith in
    All-cons (λ t. t ≤ top + (done + suc (length times)) * 2 ^ 36) (max time last + demand) _ first (subst (λ n. All (λ t. t ≤ top + n * 2 ^ 36) (lindley (max time last + demand) times demands)) many (latest top (done + 1) (max time last + demand) times demands now (All-tail (λ t. t ≤ top) time times ts) (All-tail (λ d. d ≤ 2 ^ 36) demand demands ds)))

-- the first server has what came
pub passing-begins : (arrive departs : List ℕ) (demands : List (List ℕ)) → departs ≡ arrive → All (λ time. time ≤ 2 ^ 60) arrive → Passing arrive departs demands 0
passing-begins arrive departs demands e h =
    record {
      so_far = ap (λ times. in_series times demands) e;
      many = ap length e;
      early = subst (All (λ time. time ≤ 2 ^ 60)) (sym e) h;
    }

-- one server further
pub passing-next : (arrive departs departs' column : List ℕ) (demands : List (List ℕ)) (server : ℕ) → slice_get demands server ≡ Some column → IsSoundLoad arrive column → departs' ≡ lindley 0 departs column → Passing arrive departs demands server →
    Passing arrive departs' demands (server + 1)
passing-next arrive departs departs' column demands server at load e h =
    record {
      so_far =
          ap (λ times. in_series times (drop (server + 1) demands)) e ∙ (ap (in_series departs) (sym (drop_at demands server column at)) ∙ h.so_far);
      many = ap length e ∙ (length-lindley 0 departs column (load.each ∙ sym h.many) ∙ h.many);
      early = subst (All (λ time. time ≤ 2 ^ 60 + (server + 1) * 2 ^ 56)) (sym e) (All-weaker (λ time. time ≤ 2 ^ 60 + server * 2 ^ 56 + (0 + length departs) * 2 ^ 36) (λ time. time ≤ 2 ^ 60 + (server + 1) * 2 ^ 56) (λ time k. wide time k) _ (latest (2 ^ 60 + server * 2 ^ 56) 0 0 departs column (omega arith) h.early load.small));
    }
  where
    wide : (time : ℕ) → time ≤ 2 ^ 60 + server * 2 ^ 56 + (0 + length departs) * 2 ^ 36 → time ≤ 2 ^ 60 + (server + 1) * 2 ^ 56
    wide time k = let few = load.few in let many = h.many in omega arith

-- the demands of a server
pub load-at : (arrive column : List ℕ) (demands : List (List ℕ)) (server : ℕ) → All (λ column. IsSoundLoad arrive column) demands → server < length demands → column ≡ get_or demands server column → IsSoundLoad arrive column
load-at arrive column demands server h l e = subst (IsSoundLoad arrive) (sym e) (All-get_or (λ column. IsSoundLoad arrive column) demands server column l h)

-- what has come through at most 8 servers is in its limit
pub not-late : (arrive departs : List ℕ) (demands : List (List ℕ)) (server : ℕ) → length demands ≤ 8 → server < length demands → Passing arrive departs demands server → All (λ time. time ≤ 2 ^ 62) departs
not-late arrive departs demands server few l h = All-weaker (λ time. time ≤ 2 ^ 60 + server * 2 ^ 56) (λ time. time ≤ 2 ^ 62) (λ time k. below time k) departs h.early
  where
    below : (time : ℕ) → time ≤ 2 ^ 60 + server * 2 ^ 56 → time ≤ 2 ^ 62
    below time k = omega arith

-- behind the last server are the departures
pub passing-ends : (arrive departs : List ℕ) (demands : List (List ℕ)) (server : ℕ) → length demands ≤ server → Passing arrive departs demands server → departs ≡ in_series arrive demands
passing-ends arrive departs demands server l h = sym (ap (in_series departs) (drop_all server demands l)) ∙ h.so_far
