use Rattle.std.proofs.Common.{◌≡◌, ℕ, ◌+◌, ◌-◌, ◌^◌, ◌≤◌, ◌<◌, List, length, decimal, drop, arith, length-append, ap, ◌∙◌, sym}
use Rattle.std.proofs.lemmas.Fmt.{length-decimal-le}
use Rattle.std.proofs.lemmas.List.{length-drop}
use Rattle.mq_report.proofs.line.Line.put_number.Goals as goal

digits : (n : ℕ) → n < 2 ^ 64 → length (decimal n) ≤ 20
digits n small = length-decimal-le 20 n (omega arith) (omega (arith, small)) small

-- bytes before an index, where few stand behind it
room : (start : ℕ) (bytes now : List ℕ) → drop start bytes ≡ now → length bytes ≡ 160 → length now ≤ 140 → 20 ≤ start
room start bytes now view long short =
    let behind : length now ≡ length bytes - start = sym (ap length view) ∙ length-drop start bytes in
    omega arith

pub write_digits-self-inside-requires : goal.write_digits-self-inside-requires
write_digits-self-inside-requires c =
    let few = digits c.args.value c.ranges.value.fits in
    let before = room c.self.inside.start c.self.inside.bytes c.args.self.now c.self.view_is c.self.told c.requires in
    (omega (arith, few, before), omega (arith, c.self.told, c.self.invariant))

pub returns-clause-short : goal.returns-clause-short
returns-clause-short c =
    let few = digits c.args.value c.ranges.value.fits in
    let long = ap length (c.write_digits-self-inside.ensures.written) ∙ (length-append (decimal c.args.value) (drop c.self.inside.start c.self.inside.bytes) ∙ ap (λ n. length (decimal c.args.value) + n) (ap length c.self.view_is)) in
    omega (arith, few, long)
