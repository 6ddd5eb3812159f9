-- The listing program's output tried on small texts, by computing: what it has to print, and wrong outputs that are shut out.
--     outputs, outputs-shown    texts with their outputs
--     wrongs, wrongs-shown      nothing, no breach, a breach left out, a breach twice, a row that is no representative, the wrong order, no `09`, a `09` behind a refusal
-- Assumes nothing.
use mathlib.Core.Bool.{Bool, true, not, ◌&&◌}
use mathlib.Core.List.{List, [], ◌∷◌}
use mathlib.Core.Path.{◌≡◌, refl, ap, sym, ◌∙◌, subst}
use Prim.Native.Nat.{ℕ}
use Prim.Native.String as S
use lib.Dec.{leb}
use borrow.Author.Tests.{leb-true, not-true}
use lib.ListN.{length}
use Rattle.meaning.specs.Context.{equations_of, differences_of}
use Rattle.meaning.specs.Rules.{variables}
use Rattle.meaning.specs.Text.{narrow, read, read_lines, lines_of, lines_from, digit, fields, is_listed, listed_as, size_of, entry_of, rank_of, put_context, put, put_clause, first_failing, is_nowhere, non_digit, legible, known, sized, ranked, room, named_by, table_of, no_row, refers, rows_agree, patterns_agree, agrees, tests_of, first_fault, spot_or, bad_byte, names_from, bad_field, offset_of}
use Rattle.meaning.specs.Writing.{digit_of, hex, frame}
use Rattle.meaning.specs.Replies.{code_of, values_of, printed, input_limit}
use Rattle.meaning.specs.ByTable.{same_list, clash_of, clash_from}
use Rattle.meaning.specs.Values.{numbers, number, stages, step, number_of, met, is_over, held, rows_at, levels, levels_from, level_of, highest}
use Rattle.meaning.specs.Following.{follows_by, differ_by}
use Rattle.meaning.specs.FirstBy.{first_by, seek, try_all, or_else, lowest, breaks, all_hold_by, holds_by}
use Rattle.meaning.specs.Listing as L
use Rattle.meaning.specs.Listing.{printed_listing, BreachesPrints, replies}
use Rattle.meaning.specs.Sheet.{bytes}
use Rattle.meaning.specs.Closing.{move, total, close, agree, rounds, round, rows_pass, row_pass, stated_pass, upto, unite, unite_if, count}
use Rattle.meaning.proofs.Logic.{false-true, and-true-left, and-true-right}
use Rattle.meaning.proofs.Lists.{same_list-true, same_list-self}
use Rattle.meaning.proofs.Computed.{judge, verdict}
use Rattle.meaning.proofs.ListingNext.{each_of, every, every_by}
use Rattle.meaning.proofs.ListingPrints.{listing_by, listing_on, listing_of, listing-answers, breaches-one}

-- an input and an output
abbrev pub Case : Type 0
Case = S.String × S.String

abbrev pub Prints : Case → Type 0
Prints e = BreachesPrints narrow (bytes e.0) (bytes e.1)

abbrev pub AllPrint : List Case → Type 0
AllPrint [] = Unit {0}
AllPrint (e ∷ es) = Prints e × AllPrint es

abbrev pub NonePrints : List Case → Type 0
NonePrints [] = Unit {0}
NonePrints (e ∷ es) = (Prints e → ⊥) × NonePrints es

abbrev out : Case → List ℕ
out e = printed_listing (listing_of (bytes e.0))

unfoldable same : Case → Bool
same e = leb (length (bytes e.0)) input_limit && same_list (out e) (bytes e.1)

unfoldable other : Case → Bool
other e = leb (length (bytes e.0)) input_limit && not (same_list (out e) (bytes e.1))

unfoldable pub outputs : List Case
outputs =
    -- the lullaby
    (
      "01001000\n01001100\n01001200\n01001300\n0100200100\n0100210100\n0100210101\n020401\n020503\n020602\n030203\n0400\n0401\n0500200100\n0500210100\n0500210101\n060201\n070304\n",
      "08020001\n09\n",
    )
    -- rows a, b, c; x = x
    ∷ ("01000100\n01000200\n01000300\n0400\n060000\n", "080100\n080101\n080102\n09\n")
    -- the same where b and c are equal: row 2 is no representative
    ∷ ("01000100\n01000200\n01000300\n020102\n0400\n060000\n", "080100\n080101\n09\n")
    -- rows a, b; x = b, and y in no literal
    ∷ ("01000100\n01000200\n0400\n0401\n05000200\n060002\n", "08020100\n08020101\n09\n")
    -- rows a, b; variable 0 is skipped, and variable 1 is b
    ∷ ("01000100\n01000200\n0401\n05000200\n060001\n", "08020001\n08020101\n09\n")
    -- no variable: a = a, and a = b
    ∷ ("05000100\n060000\n", "0800\n09\n")
    ∷ ("05000100\n05000200\n060001\n", "09\n")
    -- a variable, and no row
    ∷ ("0400\n060000\n", "09\n")
    -- refusals 1, 8 and 9
    ∷ ("0100010\n", "0A0100010007\n")
    ∷ ("01000100\n0400\n", "0A0800000000\n")
    ∷ ("01000100\n030000\n0400\n060000\n", "0A0900010000\n")
    ∷ []

unfoldable pub wrongs : List Case
wrongs =
    ("01000100\n01000200\n01000300\n020102\n0400\n060000\n", "")
    ∷ ("01000100\n01000200\n01000300\n020102\n0400\n060000\n", "09\n")
    ∷ ("01000100\n01000200\n01000300\n020102\n0400\n060000\n", "080100\n09\n")
    ∷ ("01000100\n01000200\n01000300\n020102\n0400\n060000\n", "080100\n080101\n080101\n09\n")
    ∷ ("01000100\n01000200\n01000300\n020102\n0400\n060000\n", "080100\n080101\n080102\n09\n")
    ∷ ("01000100\n01000200\n01000300\n020102\n0400\n060000\n", "080101\n080100\n09\n")
    ∷ ("01000100\n01000200\n01000300\n020102\n0400\n060000\n", "080100\n080101\n")
    ∷ ("01000100\n030000\n0400\n060000\n", "0A0900010000\n09\n")
    ∷ []

unfoldable all : (Case → Bool) → List Case → Bool
unfolding same other bytes printed_listing listing_of listing_on listing_by L.lines_of printed code_of values_of frame hex digit_of every_by every each_of judge verdict clash_of clash_from read read_lines lines_of lines_from digit fields is_listed listed_as size_of entry_of rank_of put_context put_clause put first_failing is_nowhere non_digit legible known sized ranked room named_by table_of no_row refers rows_agree patterns_agree agrees tests_of first_fault spot_or bad_byte names_from bad_field offset_of equations_of differences_of first_by seek try_all or_else lowest breaks all_hold_by holds_by numbers stages number step number_of met is_over held rows_at levels levels_from level_of highest differ_by follows_by same_list variables close rounds round rows_pass row_pass stated_pass upto unite_if agree unite count move total
all test [] = true
all test (e ∷ es) = test e && all test es

computed : (e : Case) → leb (length (bytes e.0)) input_limit ≡ true → BreachesPrints narrow (bytes e.0) (out e)
computed e h = replies (leb-true _ _ h) (listing_of (bytes e.0)) (listing-answers (bytes e.0))

same-prints : (e : Case) → same e ≡ true → Prints e
unfolding same
same-prints e t =
    let a : Bool = leb (length (bytes e.0)) input_limit in
    let b : Bool = same_list (out e) (bytes e.1) in
    subst (BreachesPrints narrow (bytes e.0)) (same_list-true (out e) (bytes e.1) (and-true-right a b t)) (computed e (and-true-left a b t))

other-prints : (e : Case) → other e ≡ true → Prints e → ⊥
unfolding other
other-prints e t p =
    let a : Bool = leb (length (bytes e.0)) input_limit in
    let b : Bool = same_list (out e) (bytes e.1) in
    let q : out e ≡ bytes e.1 = breaches-one narrow (bytes e.0) (out e) (bytes e.1) (computed e (and-true-left a (not b) t)) p in
    false-true (sym (ap (same_list (out e)) q) ∙ same_list-self (out e)) (not-true b (and-true-right a (not b) t))

all-print : (es : List Case) → all same es ≡ true → AllPrint es
unfolding all
all-print [] t = tt
all-print (e ∷ es) t = (same-prints e (and-true-left (same e) (all same es) t), all-print es (and-true-right (same e) (all same es) t))

none-prints : (es : List Case) → all other es ≡ true → NonePrints es
unfolding all
none-prints [] t = tt
none-prints (e ∷ es) t = (other-prints e (and-true-left (other e) (all other es) t), none-prints es (and-true-right (other e) (all other es) t))

pub outputs-shown : AllPrint outputs
unfolding outputs all
outputs-shown = all-print outputs refl

pub wrongs-shown : NonePrints wrongs
unfolding wrongs all
wrongs-shown = none-prints wrongs refl
