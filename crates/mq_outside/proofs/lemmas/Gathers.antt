-- How the texts that one writer gathers add up. In each lemma t, s and f are a sink's taken bytes, its sure bytes and
-- its count of faults, at first, then, and at last; p is what is pending.
use Rattle.std.proofs.Common.{◌≡◌, ℕ, ◌+◌, ◌≤◌, List, [], ◌++◌, length, Result, Ok, Err, IsErr, OnOk, OnErr, ap, ◌∙◌, arith, length-append, sym, append_assoc}
use Rattle.std.specs.declared.option.Option.{Option}
use Rattle.std.proofs.lemmas.List.{append-nil}
use Rattle.std.proofs.lemmas.Result.{on_err_weaker, on_ok_weaker}
use Rattle.mq_outside.specs.Outside.{Adds, Rose, TakesFirst, TakesPrefix, GoesOut}
use Rattle.mq_outside.proofs.Puts.{takes_both, takes_part, takes_front}

-- a further text, behind what was pending
pub goes_more : (t t' t'' : Option (List ℕ)) (s s' s'' : ℕ) (text piece p p' : List ℕ) → GoesOut t t' s s' text p
    → GoesOut t' t'' s' s'' (p ++ piece) p' → GoesOut t t'' s s'' (text ++ piece) p'
goes_more t t' t'' s s' s'' text piece p p' h k = record {
  done = h.done ++ k.done;
  took = takes_both t t' t'' s s' s'' h.done k.done h.took k.took;
  split = ap (λ front. front ++ piece) h.split ∙ append_assoc h.done p piece ∙ ap (λ rest. h.done ++ rest) k.split ∙ sym (append_assoc h.done k.done p');
}

-- a part of what was pending and of a further text
pub goes_part : (t t' t'' : Option (List ℕ)) (s s' s'' : ℕ) (text piece p : List ℕ) → GoesOut t t' s s' text p
    → TakesPrefix t' t'' s' s'' (p ++ piece) → TakesPrefix t t'' s s'' (text ++ piece)
goes_part t t' t'' s s' s'' text piece p h part =
    let cut : text ++ piece ≡ h.done ++ (p ++ piece) = ap (λ front. front ++ piece) h.split ∙ append_assoc h.done p piece in
    rw cut (takes_part t t' t'' s s' s'' h.done (p ++ piece) h.took part)

-- Two writers, one after the other: the first adds `text` behind p, the second `more` behind what is pending then.
pub goes_both : (t t' t'' : Option (List ℕ)) (s s' s'' : ℕ) (p p' p'' text more : List ℕ) → GoesOut t t' s s' (p ++ text) p'
    → GoesOut t' t'' s' s'' (p' ++ more) p'' → GoesOut t t'' s s'' (p ++ (text ++ more)) p''
goes_both t t' t'' s s' s'' p p' p'' text more h k = rw (← append_assoc p text more) (goes_more t t' t'' s s' s'' (p ++ text) more p' p'' h k)

-- the first was refused
pub first_refused : (t t' : Option (List ℕ)) (s s' : ℕ) (p text more : List ℕ) → TakesPrefix t t' s s' (p ++ text) → TakesPrefix t t' s s' (p ++ (text ++ more))
first_refused t t' s s' p text more part = rw (← append_assoc p text more) (takes_front t t' s s' (p ++ text) more part)

-- the second was refused
pub second_refused : (t t' t'' : Option (List ℕ)) (s s' s'' : ℕ) (p p' text more : List ℕ) → GoesOut t t' s s' (p ++ text) p'
    → TakesPrefix t' t'' s' s'' (p' ++ more) → TakesPrefix t t'' s s'' (p ++ (text ++ more))
second_refused t t' t'' s s' s'' p p' text more h part = rw (← append_assoc p text more) (goes_part t t' t'' s s' s'' (p ++ text) more p' h part)

-- a count that rose after one that didn't fall
rose_later : (f f' f'' : ℕ) → f ≤ f' → Rose f' f'' → Rose f f''
rose_later f f' f'' later rose = omega (arith, rose)

-- what was pending went out, and then a text of its own
pub goes_whole : (t t' t'' : Option (List ℕ)) (s s' s'' : ℕ) (p text left : List ℕ) → TakesFirst t t' s s' p (length p) → left ≡ []
    → TakesFirst t' t'' s' s'' text (length text) → GoesOut t t'' s s'' (p ++ text) left
goes_whole t t' t'' s s' s'' p text left first none second = record {
  done = p ++ text;
  took = takes_both t t' t'' s s' s'' p text first second;
  split = sym (ap (λ rest. (p ++ text) ++ rest) none ∙ append-nil (p ++ text));
}

-- what was pending went out, and then a text of its own, by `put_all`
pub adds_whole : {S T E : Type 0} {taken : S → Option (List ℕ)} {sure faults : S → ℕ} {a c : S} {p left : List ℕ} {r : Result T E} {text : List ℕ}
    (b : S) → left ≡ [] → TakesFirst (taken a) (taken b) (sure a) (sure b) p (length p) → faults b ≡ faults a
    → OnOk r (TakesFirst (taken b) (taken c) (sure b) (sure c) text (length text)) → OnErr r (TakesPrefix (taken b) (taken c) (sure b) (sure c) text) → faults b ≤ faults c → OnErr r (Rose (faults b) (faults c)) → OnOk r (faults c ≡ faults b) → (length text ≤ sure b → faults c ≡ faults b)
    → Adds taken sure faults a c p left r text
adds_whole {sure = sure} {faults = faults} {a = a} {c = c} {p = p} {left = left} {r = r} {text = text} b none first still ok err later rose quiet calm =
    let both : length (p ++ text) ≡ length p + length text = length-append p text in
    let spent : sure a ≤ sure b + length p = first.spent in
    record {
      ok = on_ok_weaker r (goes_whole _ _ _ _ _ _ p text left first none) ok;
      err = on_err_weaker r (takes_part _ _ _ _ _ _ p text first) err;
      later = omega (arith, still, later);
      rose = on_err_weaker r (rose_later (faults a) (faults b) (faults c) (omega (arith, still))) rose;
      quiet = on_ok_weaker r (λ e. e ∙ still) quiet;
      calm = λ room. calm (omega arith) ∙ still;
    }

-- what was pending was refused, before a text of its own
pub adds_refused : {S T E : Type 0} {taken : S → Option (List ℕ)} {sure faults : S → ℕ} {a b : S} {p left text : List ℕ} (r : Result T E) → IsErr r
    → TakesPrefix (taken a) (taken b) (sure a) (sure b) p → faults a ≤ faults b → Rose (faults a) (faults b) → (length p ≤ sure a → faults b ≡ faults a)
    → Adds taken sure faults a b p left r text
adds_refused (Ok x) refused part later rose calm = absurd cc
adds_refused {p = p} {text = text} (Err e) refused part later rose calm =
    let both : length (p ++ text) ≡ length p + length text = length-append p text in
    record { ok = tt; err = takes_front _ _ _ _ p text part; later = later; rose = rose; quiet = tt; calm = λ room. calm (omega arith) }

-- What is pending was refused, behind a writer that began with nothing pending: the sink took a first part of the text.
pub part_flushed : (t t' t'' : Option (List ℕ)) (s s' s'' : ℕ) (p p' text : List ℕ) → p ≡ [] → GoesOut t t' s s' (p ++ text) p'
    → TakesPrefix t' t'' s' s'' p' → TakesPrefix t t'' s s'' text
part_flushed t t' t'' s s' s'' p p' text none h rest =
    let whole : text ≡ h.done ++ p' = sym (ap (λ front. front ++ text) none) ∙ h.split in
    rw whole (takes_part t t' t'' s s' s'' h.done p' h.took rest)

-- a writer's text, and then another writer's
pub adds_both : {S T U E : Type 0} {taken : S → Option (List ℕ)} {sure faults : S → ℕ} {a b c : S} {p p' p'' : List ℕ} {x : U} {r : Result T E} {text more : List ℕ}
    → Adds {T = U} {E = E} taken sure faults a b p p' (Ok x) text → Adds taken sure faults b c p' p'' r more → Adds taken sure faults a c p p'' r (text ++ more)
adds_both {taken = taken} {sure = sure} {faults = faults} {a = a} {b = b} {c = c} {p = p} {p' = p'} {p'' = p''} {r = r} {text = text} {more = more} h k =
    let gone : GoesOut (taken a) (taken b) (sure a) (sure b) (p ++ text) p' = h.ok in
    let spent : sure a ≤ sure b + length gone.done = gone.took.spent in
    let long : length p + length text ≡ length gone.done + length p' = sym (length-append p text) ∙ ap length gone.split ∙ length-append gone.done p' in
    let all : length (p ++ (text ++ more)) ≡ length p + (length text + length more) = length-append p (text ++ more) ∙ ap (λ n. length p + n) (length-append text more) in
    let front : length (p ++ text) ≡ length p + length text = length-append p text in
    let rest : length (p' ++ more) ≡ length p' + length more = length-append p' more in
    record {
      ok = on_ok_weaker r (goes_both _ _ _ _ _ _ p p' p'' text more gone) k.ok;
      err = on_err_weaker r (second_refused _ _ _ _ _ _ p p' text more gone) k.err;
      later = omega (arith, h.later, k.later);
      rose = on_err_weaker r (rose_later (faults a) (faults b) (faults c) h.later) k.rose;
      quiet = on_ok_weaker r (λ e. e ∙ h.quiet) k.quiet;
      calm = λ room. k.calm (omega arith) ∙ h.quiet;
    }

-- a writer that was refused, before another
pub adds_front : {S T U E F : Type 0} {taken : S → Option (List ℕ)} {sure faults : S → ℕ} {a b : S} {p p' p'' : List ℕ} {e : E} {text : List ℕ}
    (r : Result T F) → IsErr r → (more : List ℕ) → Adds {T = U} taken sure faults a b p p' (Err e) text → Adds taken sure faults a b p p'' r (text ++ more)
adds_front (Ok x) refused more h = absurd cc
adds_front {p = p} {text = text} (Err e') refused more h =
    let all : length (p ++ (text ++ more)) ≡ length p + (length text + length more) = length-append p (text ++ more) ∙ ap (λ n. length p + n) (length-append text more) in
    let front : length (p ++ text) ≡ length p + length text = length-append p text in
    record {
      ok = tt;
      err = first_refused _ _ _ _ p text more h.err;
      later = h.later;
      rose = h.rose;
      quiet = tt;
      calm = λ room. h.calm (omega arith);
    }

-- where a writer of several texts stands: `rest` is what it has still to add of the whole text
pub record Gathers (t t' : Option (List ℕ)) (s s' f f' : ℕ) (all p rest : List ℕ) : Type 0 where
  pub text : List ℕ
  pub goes : GoesOut t t' s s' text p
  pub cut : all ≡ text ++ rest
  pub still : f' ≡ f

-- one more text was added
gathers_more : (t t' t'' : Option (List ℕ)) (s s' s'' f f' f'' : ℕ) (all p p' left piece rest : List ℕ) → left ≡ piece ++ rest
    → Gathers t t' s s' f f' all p left → GoesOut t' t'' s' s'' (p ++ piece) p' → f'' ≡ f'
    → Gathers t t'' s s'' f f'' all p' rest
gathers_more t t' t'' s s' s'' f f' f'' all p p' left piece rest next h now still =
    let cut : all ≡ h.text ++ (piece ++ rest) = h.cut ∙ ap (λ tail. h.text ++ tail) next in
    record {
      text = h.text ++ piece;
      goes = goes_more t t' t'' s s' s'' h.text piece p p' h.goes now;
      cut = cut ∙ sym (append_assoc h.text piece rest);
      still = still ∙ h.still;
    }

-- a part of what was pending and of one more text
gathers_part : (t t' t'' : Option (List ℕ)) (s s' s'' f f' : ℕ) (all p left piece rest : List ℕ) → left ≡ piece ++ rest
    → Gathers t t' s s' f f' all p left → TakesPrefix t' t'' s' s'' (p ++ piece) → TakesPrefix t t'' s s'' all
gathers_part t t' t'' s s' s'' f f' all p left piece rest next h part =
    let cut : all ≡ (h.text ++ piece) ++ rest = h.cut ∙ ap (λ tail. h.text ++ tail) next ∙ sym (append_assoc h.text piece rest) in
    rw cut (takes_front t t'' s s'' (h.text ++ piece) rest (goes_part t t' t'' s s' s'' h.text piece p h.goes part))

-- one more text was added, by a writer
pub gathers_added : {S U E : Type 0} {taken : S → Option (List ℕ)} {sure faults : S → ℕ} {a b c : S} {all p p' : List ℕ} {x : U} {left piece : List ℕ}
    (rest : List ℕ) → left ≡ piece ++ rest → Gathers (taken a) (taken b) (sure a) (sure b) (faults a) (faults b) all p left → Adds {E = E} taken sure faults b c p p' (Ok x) piece
    → Gathers (taken a) (taken c) (sure a) (sure c) (faults a) (faults c) all p' rest
gathers_added {all = all} {p = p} {p' = p'} {left = left} {piece = piece} rest next h k = gathers_more _ _ _ _ _ _ _ _ _ all p p' left piece rest next h k.ok k.quiet

-- a writer that was refused one more text
pub gathers_refused : {S T U E F : Type 0} {taken : S → Option (List ℕ)} {sure faults : S → ℕ} {a b c : S} {p p' p'' q : List ℕ} {e : E} {text left piece : List ℕ}
    (r : Result T F) → IsErr r → (rest : List ℕ) → left ≡ piece ++ rest → Gathers (taken a) (taken b) (sure a) (sure b) (faults a) (faults b) (p ++ text) p' left → Adds {T = U} taken sure faults b c p' p'' (Err e) piece
    → Adds taken sure faults a c p q r text
gathers_refused (Ok x) refused rest next h k = absurd cc
gathers_refused {sure = sure} {faults = faults} {a = a} {b = b} {c = c} {p = p} {p' = p'} {text = text} {left = left} {piece = piece} (Err e') refused rest next h k =
    let spent : sure a ≤ sure b + length h.goes.done = h.goes.took.spent in
    let cut : length (p ++ text) ≡ length h.text + (length piece + length rest) = ap length (h.cut ∙ ap (λ tail. h.text ++ tail) next) ∙ length-append h.text (piece ++ rest) ∙ ap (λ n. length h.text + n) (length-append piece rest) in
    let split : length h.text ≡ length h.goes.done + length p' = ap length h.goes.split ∙ length-append h.goes.done p' in
    let more : length (p' ++ piece) ≡ length p' + length piece = length-append p' piece in
    record {
      ok = tt;
      err = gathers_part _ _ _ _ _ _ _ _ (p ++ text) p' left piece rest next h k.err;
      later = omega (arith, h.still, k.later);
      rose = rose_later (faults a) (faults b) (faults c) (omega (arith, h.still)) k.rose;
      quiet = tt;
      calm = λ room. k.calm (omega arith) ∙ h.still;
    }

-- a writer that has nothing more to add
pub gathers_all : {S T E : Type 0} {taken : S → Option (List ℕ)} {sure faults : S → ℕ} {a b : S} {p p' : List ℕ} {x : T} {text left : List ℕ}
    → left ≡ [] → Gathers (taken a) (taken b) (sure a) (sure b) (faults a) (faults b) (p ++ text) p' left → Adds {E = E} taken sure faults a b p p' (Ok x) text
gathers_all {p = p} {text = text} none h =
    let whole : p ++ text ≡ h.text = h.cut ∙ ap (λ tail. h.text ++ tail) none ∙ append-nil h.text in
    record {
      ok = rw whole h.goes;
      err = tt;
      later = omega (arith, h.still);
      rose = tt;
      quiet = h.still;
      calm = λ room. h.still;
    }
