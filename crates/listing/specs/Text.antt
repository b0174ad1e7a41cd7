-- Document 01, "One extension, whole": the lines that list what an extension says and how many elements it has, or its
-- refusal. Octets are ASCII; each line ends with a newline, the refusal's too.
use Rattle.std.specs.Prelude.{Bool, true, false, List, [], ◌∷◌, ◌++◌, ℕ, zero, suc, ◌+◌, ◌/◌, ◌%◌, ltb}
use Rattle.std.proofs.Math.Option.{Option, none, some}
use Rattle.answer.specs.Answer.{Answer, got, refused, pick}
use Rattle.schema.specs.Content.{Root, Value, num, nul, oct, nums, trust, Field, Content}

-- ---- words, with the spaces that part them from what they name

-- a space
abbrev pub space : List ℕ
space = 32 ∷ []

-- a line's end
abbrev pub newline : List ℕ
newline = 10 ∷ []

-- '"-" stands for empty octets or an empty set'
abbrev pub dash : List ℕ
dash = 45 ∷ []

-- "yes"
abbrev pub yes_word : List ℕ
yes_word = 121 ∷ 101 ∷ 115 ∷ []

-- "version "
abbrev pub version_word : List ℕ
version_word = 118 ∷ 101 ∷ 114 ∷ 115 ∷ 105 ∷ 111 ∷ 110 ∷ 32 ∷ []

-- "keymint "
abbrev pub keymint_word : List ℕ
keymint_word = 107 ∷ 101 ∷ 121 ∷ 109 ∷ 105 ∷ 110 ∷ 116 ∷ 32 ∷ []

-- " level "
abbrev pub level_word : List ℕ
level_word = 32 ∷ 108 ∷ 101 ∷ 118 ∷ 101 ∷ 108 ∷ 32 ∷ []

-- "challenge "
abbrev pub challenge_word : List ℕ
challenge_word = 99 ∷ 104 ∷ 97 ∷ 108 ∷ 108 ∷ 101 ∷ 110 ∷ 103 ∷ 101 ∷ 32 ∷ []

-- "unique "
abbrev pub unique_word : List ℕ
unique_word = 117 ∷ 110 ∷ 105 ∷ 113 ∷ 117 ∷ 101 ∷ 32 ∷ []

-- "software "
abbrev pub software_word : List ℕ
software_word = 115 ∷ 111 ∷ 102 ∷ 116 ∷ 119 ∷ 97 ∷ 114 ∷ 101 ∷ 32 ∷ []

-- "hardware "
abbrev pub hardware_word : List ℕ
hardware_word = 104 ∷ 97 ∷ 114 ∷ 100 ∷ 119 ∷ 97 ∷ 114 ∷ 101 ∷ 32 ∷ []

-- "elements "
abbrev pub elements_word : List ℕ
elements_word = 101 ∷ 108 ∷ 101 ∷ 109 ∷ 101 ∷ 110 ∷ 116 ∷ 115 ∷ 32 ∷ []

-- "refused "
abbrev pub refused_word : List ℕ
refused_word = 114 ∷ 101 ∷ 102 ∷ 117 ∷ 115 ∷ 101 ∷ 100 ∷ 32 ∷ []

-- " at "
abbrev pub at_word : List ℕ
at_word = 32 ∷ 97 ∷ 116 ∷ 32 ∷ []

-- ---- numbers, octets and values

-- the digits of n, the highest first, none for 0; the fuel only bounds the turns, and n are enough
unfoldable pub digits : ℕ → ℕ → List ℕ
digits zero n = []
digits (suc f) zero = []
digits (suc f) (suc n) = digits f (suc n / 10) ++ ((48 + suc n % 10) ∷ [])

-- a number in decimal, without leading zeros
unfoldable pub decimal : ℕ → List ℕ
decimal zero = 48 ∷ []
decimal (suc n) = digits (suc n) (suc n)

-- "Octets are lower-case hex"
unfoldable pub hex_digit : ℕ → ℕ
hex_digit n = pick (ltb n 10) (48 + n) (87 + n)

-- an octet's two digits
unfoldable pub hex_pair : ℕ → List ℕ
hex_pair b = hex_digit (b / 16) ∷ hex_digit (b % 16) ∷ []

-- those of octets, one after the other
unfoldable pub hex_text : List ℕ → List ℕ
hex_text [] = []
hex_text (b ∷ bs) = hex_pair b ++ hex_text bs

-- '"-" stands for empty octets'
unfoldable pub octets_text : List ℕ → List ℕ
octets_text [] = dash
octets_text (b ∷ bs) = hex_text (b ∷ bs)

-- "Set members are parted by one space": those after the first
unfoldable pub more_numbers : List ℕ → List ℕ
more_numbers [] = []
more_numbers (n ∷ ns) = space ++ (decimal n ++ more_numbers ns)

-- '"-" stands for .. an empty set'
unfoldable pub numbers_text : List ℕ → List ℕ
numbers_text [] = dash
numbers_text (n ∷ ns) = decimal n ++ more_numbers ns

-- "locked 0 or 1"
unfoldable pub locked_text : Bool → List ℕ
locked_text true = 49 ∷ []
locked_text false = 48 ∷ []

-- "and, from version 3, hash": where there is one
unfoldable pub hash_text : Option (List ℕ) → List ℕ
hash_text none = []
hash_text (some bs) = space ++ octets_text bs

-- locked and state, each after a space
unfoldable pub state_text : Bool → ℕ → List ℕ
state_text locked state = space ++ (locked_text locked ++ (space ++ decimal state))

-- "704 shows key, locked 0 or 1, state and, from version 3, hash, parted likewise"
unfoldable pub root_text : Root → List ℕ
root_text r = octets_text r.key ++ (state_text r.locked r.state ++ hash_text r.hash)

-- what stands after a field's number, by its kind: a present NULL is "yes"
unfoldable pub value_text : Value → List ℕ
value_text (num n) = decimal n
value_text nul = yes_word
value_text (oct bs) = octets_text bs
value_text (nums l) = numbers_text l
value_text (trust r) = root_text r

-- ---- lines

-- a number after its word
unfoldable pub named : List ℕ → ℕ → List ℕ
named word n = word ++ decimal n

-- "version 3 level 1"
unfoldable pub numbers_line : List ℕ → ℕ → List ℕ → ℕ → List ℕ
numbers_line first a second b = named first a ++ (named second b ++ newline)

-- "challenge 010203"
unfoldable pub octets_line : List ℕ → List ℕ → List ℕ
octets_line word bs = word ++ (octets_text bs ++ newline)

-- "hardware 503 yes"
unfoldable pub field_line : List ℕ → Field → List ℕ
field_line word f = named word f.number ++ (space ++ (value_text f.value ++ newline))

-- the present fields of a list
unfoldable pub field_lines : List ℕ → List Field → List ℕ
field_lines word [] = []
field_lines word (f ∷ fs) = field_line word f ++ field_lines word fs

-- "elements 26"
unfoldable pub count_line : ℕ → List ℕ
count_line k = named elements_word k ++ newline

-- the lines before the fields: versions and levels, challenge and uniqueId
unfoldable pub head_text : ℕ → ℕ → ℕ → ℕ → List ℕ → List ℕ → List ℕ
head_text version level keymint keymint_level challenge unique =
    numbers_line version_word version level_word level
    ++ (numbers_line keymint_word keymint level_word keymint_level
    ++ (octets_line challenge_word challenge
    ++ octets_line unique_word unique))

-- what an extension of k elements says
unfoldable pub content_text : Content → ℕ → List ℕ
content_text c k =
    head_text c.version c.level c.keymint c.keymint_level c.challenge c.unique
    ++ (field_lines software_word c.software
    ++ (field_lines hardware_word c.hardware
    ++ count_line k))

-- "A refusal lists as one line: refused 2 at 0"
unfoldable pub refusal_text : ℕ → ℕ → List ℕ
refusal_text number place = numbers_line refused_word number at_word place

-- what the program lists of a read's answer
unfoldable pub listing : Answer (Content × ℕ) → List ℕ
listing (got c) = content_text c.0 c.1
listing (refused number place) = refusal_text number place
