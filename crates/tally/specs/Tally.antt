-- What a pass has used and made so far, and demand 3's bound for it. Definitions only.
use Rattle.std.specs.Prelude.{Bool, true, false, cond, ◌≡◌, ℕ, min, ◌+◌, ◌-◌, ◌*◌, ltb}
use Rattle.tally.specs.declared.Counts.{Counts}
use Rattle.tally.specs.declared.Block.{Block}

-- a sum that passes 2 ^ 64 - 1 stays there
abbrev pub capped : ℕ → ℕ
capped n = min n 18446744073709551615

-- n*(n+1) of a block with a ramp, n its output frames; no block has more than 65,536
abbrev pub ramp_of : ℕ → Bool → ℕ
ramp_of n false = 0
ramp_of n true = cond (ltb 65536 n) 18446744073709551615 (n * (n + 1))

abbrev pub none_yet : Counts
none_yet = record { blocks = 0; used = 0; given = 0; made = 0; written = 0; before = 0; behind = 0; ramps = 0 }

-- n is c with one accepted block more, whose frames from..to are written
abbrev pub Counted : Counts → Block → Counts → Type 0
Counted c b n =
    (n.blocks ≡ capped (c.blocks + 1))
    × (n.used ≡ capped (c.used + b.input))
    × (n.given ≡ capped (c.given + b.given))
    × (n.made ≡ capped (c.made + b.output))
    × (n.written ≡ capped (c.written + (b.to - b.from)))
    × (n.before ≡ capped (c.before + b.from))
    × (n.behind ≡ capped (c.behind + (b.output - b.to)))
    × (n.ramps ≡ capped (c.ramps + ramp_of b.output b.ramp))

-- the mission: "The distance is at most (N+B)/2^37, plus n*(n+1)/2^46 for each block whose d is not zero": in units of 2 ^ -46
abbrev pub bound_of : Counts → ℕ
bound_of c = capped (512 * (c.made + c.blocks) + c.ramps)
