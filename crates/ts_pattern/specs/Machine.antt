-- How the reader goes on, token for token, for private clauses: what it keeps of the patterns
-- that are open, the innermost first.
use Rattle.std.specs.Prelude.{◌≡◌, ℕ, ◌+◌, Bool, true, false, nat_lt, List, [], ◌∷◌, ◌++◌, map, option_map, Option, Some, None, if◌then◌else◌}
use Rattle.ts_core.specs.declared.re.Re.{Re}
use Rattle.ts_core.specs.declared.re.Re.TheVariants as re
use Rattle.ts_pattern.specs.declared.level.Level.{Level}
use Rattle.ts_pattern.specs.declared.level.Part.{Part}
use Rattle.ts_pattern.specs.declared.level.Finished.{Finished}
use Rattle.ts_pattern.specs.declared.level.Finished.TheVariants.{Whole, Over}
use Rattle.ts_pattern.specs.Limits.{most_nested, stopped_nesting, stopped_positions}
use Rattle.ts_pattern.specs.Trees.{Token, one_of, opening, closing, bar, quantifier, Pattern, only, or, Branch, empty, more, Piece, once, times, Atom, set, group, joined_parts, chosen, re_of, passed_limit, nesting, atom_nesting, greatest, atom_greatest, positions, branch_positions, piece_positions, atom_positions}

-- the pattern that is open, and those round it
abbrev pub Open : Type 0
Open = Pattern × List Pattern

-- the last branch of a pattern
abbrev pub last_branch : Pattern → Branch
last_branch (only b) = b
last_branch (or p b) = b

-- the pattern with one more piece
abbrev pub plus : Pattern → Piece → Pattern
plus (only b) x = only (more b x)
plus (or p b) x = or p (more b x)

-- the branch with a quantifier on its last piece, where it has none yet
abbrev pub repeated : Branch → ℕ → Option ℕ → Option Branch
repeated empty n m = None
repeated (more b (once a)) n m = Some (more b (times a n m))
repeated (more b (times a k l)) n m = None

-- the pattern with a quantifier on its last piece, where it has none yet
abbrev pub times_last : Pattern → ℕ → Option ℕ → Option Pattern
times_last (only b) n m = option_map only (repeated b n m)
times_last (or p b) n m = option_map (or p) (repeated b n m)

-- what is open once the innermost pattern is closed, which has to be a group's
abbrev pub closed : Pattern → List Pattern → Option Open
closed p [] = None
closed p (q ∷ k) = Some (plus q (once (group p)), k)

-- this pattern is open, and these round it
abbrev pub with_rest : List Pattern → Pattern → Open
with_rest k q = (q, k)

-- what is open after a token, where the token can stand there
abbrev pub step : Pattern → List Pattern → Token → Option Open
step p k (one_of ranges) = Some (plus p (once (set ranges)), k)
step p k opening = Some (only empty, p ∷ k)
step p k closing = closed p k
step p k bar = Some (or p empty, k)
step p k (quantifier n m) = option_map (with_rest k) (times_last p n m)

-- what is open after some tokens, where each can stand where it does
abbrev pub run_from : Option Open → List Token → Option Open
run_from None ts = None
run_from (Some z) [] = Some z
run_from (Some z) (t ∷ ts) = run_from (step z.0 z.1 t) ts

-- what is open at first: a pattern with nothing in it yet
abbrev pub start : Option Open
start = Some (only empty, [])

-- ---- what is kept of an open pattern; below the limit on nesting nothing is kept, since such a
-- pattern is refused

-- the regular expressions of the parts, as far as they are kept
abbrev mutual
  pub built_branches : Pattern → List Re
  built_branches (only b) = joined_parts (built_pieces b) ∷ []
  built_branches (or p b) = built_branches p ++ joined_parts (built_pieces b) ∷ []

  pub built_pieces : Branch → List Re
  built_pieces empty = []
  built_pieces (more b x) = built_pieces b ++ built_piece x ∷ []

  pub built_piece : Piece → Re
  built_piece (once a) = built_atom a
  built_piece (times a n m) = re.Repeat (built_atom a) n m

  pub built_atom : Atom → Re
  built_atom (set ranges) = re.Set ranges
  built_atom (group p) =
      if nat_lt most_nested (nesting p + 1) then re.Empty else chosen (built_branches p)

-- the regular expressions of all branches but the last
abbrev pub built_before : Pattern → List Re
built_before (only b) = []
built_before (or p b) = built_branches p

-- the positions of all pieces of a branch but the last
abbrev pub branch_earlier : Branch → ℕ
branch_earlier empty = 0
branch_earlier (more b x) = branch_positions b

-- the positions of all pieces of a pattern but the last
abbrev pub earlier : Pattern → ℕ
earlier (only b) = branch_earlier b
earlier (or p b) = positions p + branch_earlier b

-- the positions of the last piece of a branch
abbrev pub branch_latest : Branch → ℕ
branch_latest empty = 0
branch_latest (more b x) = piece_positions x

-- the branch has a last piece, and that has no quantifier yet
abbrev pub is_repeatable : Branch → Bool
is_repeatable empty = false
is_repeatable (more b (once a)) = true
is_repeatable (more b (times a n m)) = false

-- what is kept of an open pattern
abbrev pub level_of : Pattern → Level
level_of p = record {
  branches = built_before p;
  pieces = built_pieces (last_branch p);
  nesting = stopped_nesting (nesting p);
  greatest = greatest p;
  earlier = stopped_positions (earlier p);
  latest = stopped_positions (branch_latest (last_branch p));
  repeatable = is_repeatable (last_branch p);
}

-- what is kept of an atom
abbrev pub part_of : Atom → Part
part_of a =
    record {
      re = built_atom a;
      nesting = stopped_nesting (atom_nesting a);
      greatest = atom_greatest a;
      positions = stopped_positions (atom_positions a);
    }

-- what is kept after a token: nothing where it cannot stand there
abbrev pub Follows : Option Open → Option Level → List Level → Type 0
Follows None r outer = r ≡ None
Follows (Some z) r outer = (r ≡ Some (level_of z.0)) × (outer ≡ map level_of z.1)

-- what is kept with a quantifier on the last piece: nothing where it cannot stand there
abbrev pub IsTimes : Option Pattern → Option Level → Type 0
IsTimes None r = r ≡ None
IsTimes (Some q) r = r ≡ Some (level_of q)

-- the whole pattern, or the limit that it passes
abbrev pub IsFinish : Pattern → Finished → Type 0
IsFinish p (Whole r) = (passed_limit p ≡ None) × (r ≡ re_of p)
IsFinish p (Over n) = passed_limit p ≡ Some n
