-- The same bytes are the text of one value, however deep.
use Rattle.std.proofs.Common.{◌≡◌, ℕ, ◌+◌, List, [], ◌∷◌, length, get_or, Bool, true, false, cond, ◌==◌, nat_lt, Option, Some, None}
use Rattle.ts_ojson.specs.declared.class.Class.{Class}
use Rattle.ts_ojson.specs.declared.class.Class.TheVariants as class
use Rattle.ts_ojson.specs.declared.part.Part.{Part}
use Rattle.ts_ojson.specs.Pieces.{Piece}
use Rattle.ts_ojson.specs.Pieces.{reading, finished}
use Rattle.ts_ojson.specs.Frames as frame
use Rattle.ts_ojson.specs.declared.word.Word.{Word}
use Rattle.ts_ojson.specs.Roles.{Role}
use Rattle.ts_ojson.specs.Roles as role
use Rattle.ts_ojson.specs.States.{State}
use Rattle.ts_ojson.specs.States as state
use Rattle.ts_ojson.specs.declared.value.OJson.{OJson}
use Rattle.ts_ojson.specs.declared.value.OJson.TheVariants as json
use Rattle.ts_ojson.specs.Json.{Json}
use Rattle.ts_ojson.specs.Text.{IsJsonText}
use Rattle.ts_ojson.specs.Strings.{next_piece}
use Rattle.ts_ojson.specs.Machine.{Frames, Gathered, class_of, part_next, part_ends, word_bytes, word_value, fine, Outcome, stuck, goes, stays, begin_class, value_class, after, item_first_class, name_first, name_next, colon_next, word_next, number_part, closed, text_piece, next}
use Rattle.ts_ojson.proofs.Meaning.{Completes, Means}
use Rattle.ts_ojson.proofs.StepLemmas.{HasEscape, step_is, start_is}
use Rattle.ts_ojson.proofs.SoundLemmas.{PieceWithin, within}
use Rattle.ts_ojson.proofs.EndLemmas.{ended_is}
use Rattle.ts_ojson.proofs.FinalLemmas.{one_end}

abbrev OutEscape : Outcome → Type 0
OutEscape stuck = Unit {0}
OutEscape (goes q s k) = HasEscape s

escape_cond : (x y : Outcome) (t : Bool) → OutEscape x → OutEscape y → OutEscape (cond t x y)
escape_cond x y true f g = f
escape_cond x y false f g = g

begin_escape : (k : Frames) (b : ℕ) (c : Class) → OutEscape (begin_class k b c)
begin_escape k b class.Quote = tt
begin_escape k b c = tt

value_escape : (k : Frames) (b : ℕ) (c : Class) → OutEscape (value_class k b c)
value_escape k b class.Blank = tt
value_escape k b c = begin_escape k b c

item_escape : (k : Frames) (b : ℕ) (c : Class) → OutEscape (item_first_class k b c)
item_escape k b class.Blank = tt
item_escape k b class.CloseArray = tt
item_escape k b c = begin_escape (frame.array [] ∷ k) b c

after_escape : (o : OJson) (k : Frames) (c : Class) → OutEscape (after o k c)
after_escape o [] class.Blank = tt
after_escape o [] c = tt
after_escape o (frame.array xs ∷ k) class.Blank = tt
after_escape o (frame.array xs ∷ k) class.Comma = tt
after_escape o (frame.array xs ∷ k) class.CloseArray = tt
after_escape o (frame.array xs ∷ k) c = tt
after_escape o (frame.object ms n ∷ k) class.Blank = tt
after_escape o (frame.object ms n ∷ k) class.Comma = tt
after_escape o (frame.object ms n ∷ k) class.CloseObject = tt
after_escape o (frame.object ms n ∷ k) c = tt

first_escape : (k : Frames) (c : Class) → OutEscape (stays (name_first 0 c) k)
first_escape k class.Blank = tt
first_escape k class.CloseObject = tt
first_escape k class.Quote = tt
first_escape k c = tt

name_escape : (ms : Gathered) (k : Frames) (c : Class) → OutEscape (stays (name_next 0 ms c) k)
name_escape ms k class.Blank = tt
name_escape ms k class.Quote = tt
name_escape ms k c = tt

colon_escape : (ms : Gathered) (n : List ℕ) (k : Frames) (c : Class) → OutEscape (colon_next ms n k c)
colon_escape ms n k class.Blank = tt
colon_escape ms n k class.Colon = tt
colon_escape ms n k c = tt

word_escape : (x : Word) (i : ℕ) (k : Frames) (b : ℕ) → OutEscape (word_next x i k b)
word_escape x i k b =
    escape_cond _ _ (nat_lt i (length (word_bytes x))) (escape_cond (goes fine (state.word x (i + 1)) k) stuck (get_or (word_bytes x) i 0 == b) tt tt) (after_escape (word_value x) k (class_of b))

number_escape : (p : Part) (s : List ℕ) (k : Frames) (b : ℕ) (o : Option Part) → OutEscape (number_part p s k b o)
number_escape p s k b (Some q) = tt
number_escape p s k b None = escape_cond (after (json.Num s) k (class_of b)) stuck (part_ends p) (after_escape (json.Num s) k (class_of b)) tt

closed_escape : (s : List ℕ) (r : Role) (k : Frames) → OutEscape (closed s r k)
closed_escape s role.value k = tt
closed_escape s (role.name p ms) k = tt

text_escape : (r : Role) (k : Frames) (o : Option Piece) → PieceWithin o → OutEscape (text_piece r k o)
text_escape r k None is = tt
text_escape r k (Some (reading e s)) is = is
text_escape r k (Some (finished s)) is = closed_escape s r k

escapes : (s : State) (k : Frames) (b : ℕ) → HasEscape s → OutEscape (next 0 s k b)
escapes state.value k b is = value_escape k b (class_of b)
escapes state.first_item k b is = item_escape k b (class_of b)
escapes (state.after o) k b is = after_escape o k (class_of b)
escapes state.first_name k b is = first_escape k (class_of b)
escapes (state.name ms) k b is = name_escape ms k (class_of b)
escapes (state.colon ms n) k b is = colon_escape ms n k (class_of b)
escapes (state.word x i) k b is = word_escape x i k b
escapes (state.number p s) k b is = number_escape p s k b (part_next p (class_of b))
escapes (state.text e s r) k b is = text_escape r k (next_piece e s b) (within e s b is)

one_outcome : (o : Outcome) (w : List ℕ) (v u : Json) → OutEscape o → Means o v w → Means o u w → ((s : State) (k : Frames) → HasEscape s → Completes s k v w → Completes s k u w → v ≡ u) → v ≡ u
one_outcome stuck w v u is g h f = absurd g
one_outcome (goes q s k) w v u is g h f = f s k is g h

one_completed : (w : List ℕ) (s : State) (k : Frames) (v u : Json) → HasEscape s → Completes s k v w → Completes s k u w → v ≡ u
one_completed [] s k v u is g h = one_end s k v u (ended_is s k v g) (ended_is s k u h)
one_completed (b ∷ w) s k v u is g h =
    one_outcome (next 0 s k b) w v u (escapes s k b is) ((step_is 0 s k v b w is).0 g) ((step_is 0 s k u b w is).0 h) (λ q i e x y. one_completed w q i v u e x y)

pub one_text : (v u : Json) (w : List ℕ) → IsJsonText v w → IsJsonText u w → v ≡ u
one_text v u w g h = one_completed w state.value [] v u tt ((start_is v w).0 g) ((start_is u w).0 h)
