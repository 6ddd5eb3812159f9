-- The keys of entries, as the code holds them: a run of six numbers an entry, like a row's.
--     arg_number, ArgNumbers    the number of one argument, 0 past the last; those of a row or a pattern row in four places
--     Holds                    a key in a symbol, a count and four places, those past the count 0
--     places_in, KeyAt          the four places of entry i; entry i has a key
--     Copied                   what stands at entry i
--     pattern_row               the entry of a pattern row with a symbol, after so many entries
--     Keyed                    the first so many entries have their places, and no more than four arguments
--     Like, Numbered           the number of an earlier entry with the same key; or no earlier entry has it, and it is the entry's own
--                              place; the numbers after entry e has its own
-- Assumes nothing.
use Rattle.std.specs.Prelude.{true, false, List, map, ◌≡◌, ℕ, ◌+◌, ◌*◌, ◌≤◌, ◌<◌, ltb, length, get_or, set, take, drop}
use Rattle.meaning.specs.Context.{Row}
use Rattle.meaning.specs.Values.{number_at, args_of}
use Rattle.meaning.specs.Checking.{same_key}
use Rattle.runs.specs.Limits.{row_size, arg_places}
use Rattle.runs.specs.Runs.{args_from, symbol_in, count_in, row_in, head_in, pattern_args_in}

abbrev pub after : ℕ → ℕ → ℕ
after offset x = offset + x

unfoldable pub arg_number : List ℕ → List ℕ → ℕ → ℕ → ℕ → ℕ → ℕ
arg_number ns run at offset count k = elim (ltb k count) [ true ↦ number_at ns (offset + get_or run (at + k) 0) | false ↦ 0 ]

pub record ArgNumbers (ns run : List ℕ) (at offset count : ℕ) (places : List ℕ) : Type 0 where
  pub four : length places ≡ arg_places
  pub taken : take count places ≡ args_of ns (map (after offset) (args_from run at count))
  pub rest : (k : ℕ) → count ≤ k → get_or places k 0 ≡ 0

pub record Holds (key : Row) (symbol count : ℕ) (places : List ℕ) : Type 0 where
  pub so : record { symbol = symbol; args = take count places } ≡ key
  pub few : count ≤ arg_places
  pub four : length places ≡ arg_places
  pub rest : (k : ℕ) → count ≤ k → get_or places k 0 ≡ 0

abbrev pub places_in : List ℕ → ℕ → List ℕ
places_in keys i = take arg_places (drop (i * row_size + 2) keys)

abbrev pub KeyAt : List ℕ → ℕ → Row → Type 0
KeyAt keys i key = Holds key (symbol_in keys i) (count_in keys i) (places_in keys i)

pub record Copied (keys : List ℕ) (i symbol count : ℕ) (places : List ℕ) : Type 0 where
  pub symbols : symbol ≡ symbol_in keys i
  pub counts : count ≡ count_in keys i
  pub all : places ≡ places_in keys i

abbrev pub pattern_row : ℕ → List ℕ → ℕ → Row
pattern_row offset patterns i = record { symbol = head_in patterns i; args = map (after offset) (pattern_args_in patterns i) }

pub record Keyed (keys : List ℕ) (n : ℕ) : Type 0 where
  pub room : n * row_size ≤ length keys
  pub few : (i : ℕ) → i < n → count_in keys i ≤ arg_places

pub data Like (keys ns : List ℕ) (e x : ℕ) : Type 0 where
  like-found : (j : ℕ) → j < e → same_key (row_in keys e) (row_in keys j) ≡ true → x ≡ number_at ns j → Like keys ns e x
  like-none : ((j : ℕ) → j < e → same_key (row_in keys e) (row_in keys j) ≡ false) → x ≡ e → Like keys ns e x

pub record Numbered (keys ns : List ℕ) (e : ℕ) (exit : List ℕ) : Type 0 where
  pub number : ℕ
  pub like : Like keys ns e number
  pub so : exit ≡ set ns e number
