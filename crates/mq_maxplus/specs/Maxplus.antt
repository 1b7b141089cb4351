-- Max and plus over numbers with minus infinity, and the affine maps of them.
use Rattle.std.specs.Prelude.{ℕ, ◌+◌, ◌^◌, ◌<◌, max}
use Rattle.mq_maxplus.specs.declared.mp.Mp.{Mp}
use Rattle.mq_maxplus.specs.declared.mp.Mp.TheVariants.{Void, At}
use Rattle.mq_maxplus.specs.declared.affine.Affine.{Affine}

-- the greater of two
abbrev pub mp_max : Mp → Mp → Mp
mp_max Void y = y
mp_max (At a) Void = At a
mp_max (At a) (At b) = At (max a b)

-- the sum of two; minus infinity plus anything is minus infinity
abbrev pub mp_plus : Mp → Mp → Mp
mp_plus Void y = Void
mp_plus (At a) Void = Void
mp_plus (At a) (At b) = At (a + b)

-- the number, or 0 for minus infinity
abbrev pub mp_or_zero : Mp → ℕ
mp_or_zero Void = 0
mp_or_zero (At a) = a

-- minus infinity, or a number that fits in a u64
abbrev pub Fits : Mp → Type 0
Fits Void = Unit {0}
Fits (At a) = a < 2 ^ 64

-- the map from x to the greater of x + add and least
abbrev pub affine : ℕ → Mp → Affine
affine add least = record { add = add; least = least }

abbrev pub affine_act : Affine → Mp → Mp
affine_act s x = mp_max (mp_plus x (At s.add)) s.least

-- the composition in which the first acts first
abbrev pub affine_then : Affine → Affine → Affine
affine_then s t = affine (s.add + t.add) (mp_max (mp_plus s.least (At t.add)) t.least)

-- the sums in a composition fit
abbrev pub CanThen : Affine → Affine → Type 0
CanThen s t = (s.add + t.add < 2 ^ 64) × Fits (mp_plus s.least (At t.add))

-- the sum in the map's value at x fits
abbrev pub CanAct : Affine → Mp → Type 0
CanAct s x = Fits (mp_plus x (At s.add))
