-- The lines of grounds: the steps, then a conclusion for each literal.
--     octets                 the n low bytes of a number, high byte first
--     step_bytes, end_bytes    the bytes of a step by its three words, and of a conclusion
--     step_frame, end_frame    their lines
--     end_of                  the conclusion of literal j, from 0, in columns
--     item_frame, size_at      the line of item p, where the first n items are steps and the others conclusions; how long it is
-- Assumes nothing.
use Rattle.std.specs.Prelude.{true, false, List, [], ◌∷◌, ◌++◌, ℕ, zero, suc, ◌-◌, ◌/◌, ◌%◌, ltb}
use Rattle.meaning.specs.Writing.{frame}
use Rattle.meaning.specs.Grounds.{Conclusion}
use Rattle.meaning.specs.GroundColumns.{conclusion_from}
use Rattle.grounds_steps.specs.Steps.{word_in}
use Rattle.grounds_verdict.specs.declared.Conclusions.{Conclusions}

unfoldable pub octets : ℕ → ℕ → List ℕ
octets zero x = []
octets (suc n) x = octets n (x / 256) ++ (x % 256 ∷ [])

-- the bytes of a step's line
unfoldable pub step_bytes : ℕ → ℕ → ℕ → List ℕ
step_bytes x y z = 176 ∷ (octets 8 x ++ (octets 8 y ++ octets 8 z))

unfoldable pub step_frame : ℕ → ℕ → ℕ → List ℕ
step_frame x y z = frame (step_bytes x y z)

-- what a conclusion cites; the four bytes behind the step and the last one are zeros that are not read
unfoldable pub cited_bytes : ℕ → ℕ → List ℕ
cited_bytes first difference = octets 4 first ++ (octets 4 0 ++ (octets 2 difference ++ octets 1 0))

unfoldable pub end_bytes : Conclusion → List ℕ
end_bytes c = 177 ∷ (octets 1 c.literal ++ cited_bytes c.first c.difference)

unfoldable pub end_frame : Conclusion → List ℕ
end_frame c = frame (end_bytes c)

abbrev pub end_of : Conclusions → ℕ → Conclusion
end_of d j = conclusion_from d.firsts d.differences j

unfoldable pub item_frame : List (List ℕ) → ℕ → Conclusions → ℕ → List ℕ
item_frame steps n d p =
    elim (ltb p n) [ true ↦ step_frame (word_in steps p 0) (word_in steps p 1) (word_in steps p 2) | false ↦ end_frame (end_of d (p - n)) ]

unfoldable pub size_at : ℕ → ℕ → ℕ
size_at n p = elim (ltb p n) [ true ↦ 51 | false ↦ 27 ]
