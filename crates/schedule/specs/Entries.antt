-- What a line of a plan says: `at BLOCK RATIO`, `ramp BLOCK RATIO`, `mask BLOCK MASK`, nothing, or that it is none of these. Definitions only.
use Rattle.std.specs.Prelude.{ℕ, Bool, true, false, cond, ◌&&◌, ◌||◌, List, [], ◌∷◌, length, ◌==◌, slice_index, Float, Option, Some, None}
use Rattle.text.specs.Words.{decimal_of}
use Rattle.decimals.specs.Numbers.{number_of}
use Rattle.schedule.specs.Words.{from_word, word_of, behind_word}
use Rattle.schedule.specs.declared.entries.Name.{Name}
use Rattle.schedule.specs.declared.entries.Name.TheVariants as name
use Rattle.schedule.specs.declared.entries.Entry.{Entry}
use Rattle.schedule.specs.declared.entries.Entry.TheVariants as entry

-- two words are the same, byte for byte
unfoldable pub same_word : List ℕ → List ℕ → Bool
same_word [] [] = true
same_word [] (b ∷ v) = false
same_word (a ∷ w) [] = false
same_word (a ∷ w) (b ∷ v) = a == b && same_word w v

-- the names, in ASCII
unfoldable pub name_of : List ℕ → Option Name
unfolding same_word
name_of w =
    cond (same_word w (97 ∷ 116 ∷ [])) (Some name.At)
    (cond (same_word w (114 ∷ 97 ∷ 109 ∷ 112 ∷ [])) (Some name.Ramp)
    (cond (same_word w (109 ∷ 97 ∷ 115 ∷ 107 ∷ [])) (Some name.Mask) None))

-- a change before a block
abbrev pub at_of : ℕ → Option Float → Option Entry
at_of block (Some x) = Some (entry.At block x)
at_of block None = None

abbrev pub ramp_of : ℕ → Option Float → Option Entry
ramp_of block (Some x) = Some (entry.Ramp block x)
ramp_of block None = None

abbrev pub mask_of : ℕ → Option ℕ → Option Entry
mask_of block (Some m) = Some (entry.Mask block m)
mask_of block None = None

abbrev pub named_of : Name → ℕ → List ℕ → Option Entry
named_of name.At block value = at_of block (number_of value)
named_of name.Ramp block value = ramp_of block (number_of value)
named_of name.Mask block value = mask_of block (decimal_of value)

abbrev pub with_block : Option Name → Option ℕ → List ℕ → Option Entry
with_block (Some n) (Some block) value = named_of n block value
with_block (Some n) None value = None
with_block None block value = None

-- three words: a name, a block in decimal digits, and a ratio as on the command line or a mask in decimal digits
abbrev pub fields_of : List ℕ → List ℕ → List ℕ → Option Entry
fields_of n block value = with_block (name_of n) (decimal_of block) value

-- nothing, or a text that begins with `#`
abbrev pub is_over : List ℕ → Bool
is_over w = length w == 0 || slice_index w 0 == 35

-- the text from its next word on
abbrev pub next_word : List ℕ → List ℕ
next_word w = from_word (behind_word w)

-- a text that does not begin with a blank: three words and no more, or nothing
abbrev pub said_of : List ℕ → Option Entry
said_of w =
    cond (is_over w) (Some entry.Blank)
    (cond (length (next_word (next_word (next_word w))) == 0)
    (fields_of (word_of w) (word_of (next_word w)) (word_of (next_word (next_word w))))
    None)

-- what a line says
unfoldable pub entry_of : List ℕ → Option Entry
unfolding from_word word_of behind_word name_of
entry_of line = said_of (from_word line)
