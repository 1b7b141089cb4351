use Rattle.std.proofs.Common.{◌≡◌, ◌∙◌, ◌+◌, ◌<◌, ◌≤◌, ◌++◌, List, ℕ, Option, Some, None, ap, sym, arith, drop, length, length-append, length-drop, length-take, min, take}
use Rattle.std.proofs.Math.Seq.{take_all}
use Rattle.std.proofs.lemmas.List.{take-append-drop}
use Rattle.std.specs.Option.{IfSome, option_map}
use Rattle.mq_outside.proofs.host.read_to.Goals as goal

-- what stands behind the bytes that were there
grown : (old now : List ℕ) → take (length old) now ≡ old → now ≡ old ++ drop (length old) now
grown old now front = sym (take-append-drop (length old) now) ∙ ap (λ l. l ++ drop (length old) now) front

-- how many bytes were read, of so many
read_length : (old now bytes : List ℕ) (most : ℕ) → now ≡ old ++ take most bytes → length now ≡ length old + min most (length bytes)
read_length old now bytes most is = ap length is ∙ length-append old (take most bytes) ∙ ap (λ n. length old + n) (length-take most bytes)

-- Where the bytes read are no more than the limit, so are all: at most one more was asked for.
within_limit : (known asked : Option (List ℕ)) (old now : List ℕ) (limit most : ℕ) → asked ≡ known → most ≡ min (limit + 1) 18446744073709551615
    → IfSome (option_map (take most) asked) (λ bytes. now ≡ old ++ bytes) → length now ≤ length old + limit → length now < 9223372036854775808
    → IfSome known (λ bytes. length bytes ≤ limit)
within_limit None asked old now limit most same up_to read fits small = tt
within_limit (Some bytes) asked old now limit most same up_to read fits small =
    let long = read_length old now bytes most (rw same at read) in
    omega arith

-- then all were read
read_all : (known asked : Option (List ℕ)) (old now : List ℕ) (limit most : ℕ) → asked ≡ known → most ≡ min (limit + 1) 18446744073709551615
    → IfSome (option_map (take most) asked) (λ bytes. now ≡ old ++ bytes) → length now ≤ length old + limit → length now < 9223372036854775808
    → IfSome known (λ bytes. now ≡ old ++ bytes)
read_all None asked old now limit most same up_to read fits small = tt
read_all (Some bytes) asked old now limit most same up_to read fits small =
    let is : now ≡ old ++ take most bytes = rw same at read in
    let long = read_length old now bytes most is in
    is ∙ ap (λ tail. old ++ tail) (take_all most bytes (omega arith))

-- where more were read than the limit, there are more
past_limit : (known asked : Option (List ℕ)) (old now : List ℕ) (limit most : ℕ) → asked ≡ known
    → IfSome (option_map (take most) asked) (λ bytes. now ≡ old ++ bytes) → length old + limit < length now
    → IfSome known (λ bytes. limit < length bytes)
past_limit None asked old now limit most same read past = tt
past_limit (Some bytes) asked old now limit most same read past =
    let long = read_length old now bytes most (rw same at read) in
    omega arith

pub returns-in-Ok-clause-grows : goal.returns-in-Ok-clause-grows
returns-in-Ok-clause-grows g c = (drop (length c.args.into.now.items) c.read_to_end.new.buf.items, grown _ _ c.read_to_end.ensures.appends)

pub returns-in-Ok-2-clause-gains : goal.returns-in-Ok-2-clause-gains
returns-in-Ok-2-clause-gains g c = record {
  bytes = drop (length c.args.into.now.items) c.read_to_end.new.buf.items;
  gained = grown _ _ c.read_to_end.ensures.appends;
  within = omega (arith, length-drop (length c.args.into.now.items) c.read_to_end.new.buf.items, c.in-Ok.ensures.ok, c.if-count-limit.false, c.args.into.now.ok.0, c.read_to_end.new.buf.ok.0);
}

pub returns-in-Ok-2-clause-grows : goal.returns-in-Ok-2-clause-grows
returns-in-Ok-2-clause-grows g c = (drop (length c.args.into.now.items) c.read_to_end.new.buf.items, grown _ _ c.read_to_end.ensures.appends)

pub returns-in-Err-clause-grows : goal.returns-in-Err-clause-grows
returns-in-Err-clause-grows g c = (drop (length c.args.into.now.items) c.read_to_end.new.buf.items, grown _ _ c.read_to_end.ensures.appends)

pub returns-in-Ok-clause-too_long : goal.returns-in-Ok-clause-too_long
returns-in-Ok-clause-too_long g c =
    let new = c.read_to_end.new.buf in
    let had = c.args.into.now.ok.0 in
    λ e. past_limit _ _ _ _ _ _ (ap (λ b. g.R.Read.remaining b.now) c.take-part.ensures.inner) c.in-Ok.ensures.bytes
    (omega (arith, had, new.ok.0, c.in-Ok.ensures.ok, c.if-count-limit.true))

pub returns-in-Ok-2-clause-whole : goal.returns-in-Ok-2-clause-whole
returns-in-Ok-2-clause-whole g c =
    let new = c.read_to_end.new.buf in
    let had = c.args.into.now.ok.0 in
    read_all _ _ _ _ c.args.limit _ (ap (λ b. g.R.Read.remaining b.now) c.take-part.ensures.inner) (c.take-part.ensures.limit ∙ c.saturating_add.ensures) c.in-Ok.ensures.bytes
    (omega (arith, had, new.ok.0, c.in-Ok.ensures.ok, c.if-count-limit.false)) (omega (arith, new.ok.0, new.ok.1, new.small))

pub returns-in-Ok-2-clause-fits : goal.returns-in-Ok-2-clause-fits
returns-in-Ok-2-clause-fits g c =
    let new = c.read_to_end.new.buf in
    let had = c.args.into.now.ok.0 in
    within_limit _ _ _ _ _ _ (ap (λ b. g.R.Read.remaining b.now) c.take-part.ensures.inner) (c.take-part.ensures.limit ∙ c.saturating_add.ensures) c.in-Ok.ensures.bytes
    (omega (arith, had, new.ok.0, c.in-Ok.ensures.ok, c.if-count-limit.false)) (omega (arith, new.ok.0, new.ok.1, new.small))
