-- Where a name that is being read began, kept from byte to byte.
use Rattle.std.proofs.Common.{◌≡◌, ℕ, ◌+◌, ◌-◌, ◌<◌, List, [], ◌∷◌, ◌++◌, length, get_or, take, drop, Bool, true, false, cond, ◌==◌, nat_lt, Option, Some, None, refl, sym, ap, subst, ◌∙◌, arith}
use Rattle.std.proofs.lemmas.List.{append_assoc, append-nil, length-append, take_more, drop_more}
use Rattle.std.specs.Str.{IsUtf8}
use Rattle.ts_ojson.specs.declared.class.Class.{Class}
use Rattle.ts_ojson.specs.declared.class.Class.TheVariants as class
use Rattle.ts_ojson.specs.declared.part.Part.{Part}
use Rattle.ts_ojson.specs.declared.escape.Escape.{Escape}
use Rattle.ts_ojson.specs.declared.escape.Escape.TheVariants.{Plain}
use Rattle.ts_ojson.specs.Pieces.{Piece}
use Rattle.ts_ojson.specs.Pieces.{reading, finished}
use Rattle.ts_ojson.specs.Frames as frame
use Rattle.ts_ojson.specs.declared.word.Word.{Word}
use Rattle.ts_ojson.specs.Roles.{Role}
use Rattle.ts_ojson.specs.Roles as role
use Rattle.ts_ojson.specs.States.{State}
use Rattle.ts_ojson.specs.States as state
use Rattle.ts_ojson.specs.declared.value.OJson.{OJson}
use Rattle.ts_ojson.specs.declared.value.OJson.TheVariants as json
use Rattle.ts_ojson.specs.Characters.{IsHigh, IsLow, pair_of, short_of, Quoted}
use Rattle.ts_ojson.specs.Reads.{Begins, IsAny}
use Rattle.ts_ojson.specs.Gathered.{has_name}
use Rattle.ts_ojson.specs.Strings.{next_piece, IsWithin}
use Rattle.ts_ojson.specs.Machine.{Frames, Gathered, class_of, part_next, part_ends, word_bytes, word_value, fine, too_deep, repeated, Outcome, stuck, goes, stays, opens, begin_class, value_class, after, item_first_class, name_first, name_next, colon_next, word_next, number_part, text_piece, next}
use Rattle.ts_ojson.proofs.Meaning.{InText, PieceMeans}
use Rattle.ts_ojson.proofs.ClassLemmas.{of_class}
use Rattle.ts_ojson.proofs.StringLemmas.{text_step}

-- ---- what is kept
-- from p on a string began: its bytes so far are read to e and s
pub record IsQuoting (w : List ℕ) (at : ℕ) (e : Escape) (s : List ℕ) (p : ℕ) : Type 0 where
  pub before : p < at
  pub starts : Begins IsAny (take p w ++ 10 ∷ [])
  pub reads : (n z : List ℕ) → InText e s (λ q r. (q ≡ n) × (r ≡ [])) z → Quoted n (take (at - p) (drop p w) ++ z) []

pub record IsQuoted (w : List ℕ) (at : ℕ) (n : List ℕ) (p : ℕ) : Type 0 where
  pub before : p + 1 < at
  pub starts : Begins IsAny (take p w ++ 10 ∷ [])
  pub reads : Quoted n (take (at - p) (drop p w)) []

abbrev pub RoleFits : List ℕ → ℕ → Escape → List ℕ → Role → Type 0
RoleFits w at e s role.value = Unit {0}
RoleFits w at e s (role.name p ms) = IsQuoting w at e s p

abbrev pub Fits : List ℕ → ℕ → State → Type 0
Fits w at state.value = Unit {0}
Fits w at state.first_item = Unit {0}
Fits w at (state.after o) = Unit {0}
Fits w at state.first_name = Unit {0}
Fits w at (state.name ms) = Unit {0}
Fits w at (state.colon ms n) = Unit {0}
Fits w at (state.word x i) = Unit {0}
Fits w at (state.number p s) = Unit {0}
Fits w at (state.text e s r) = RoleFits w at e s r

abbrev pub TwiceFits : List ℕ → ℕ → ℕ → State → Type 0
TwiceFits w at p state.value = Unit {0}
TwiceFits w at p state.first_item = Unit {0}
TwiceFits w at p (state.after o) = Unit {0}
TwiceFits w at p state.first_name = Unit {0}
TwiceFits w at p (state.name ms) = Unit {0}
TwiceFits w at p (state.colon ms n) = IsQuoted w at n p
TwiceFits w at p (state.word x i) = Unit {0}
TwiceFits w at p (state.number q s) = Unit {0}
TwiceFits w at p (state.text e s r) = Unit {0}

abbrev pub OutFits : List ℕ → ℕ → Outcome → Type 0
OutFits w at stuck = Unit {0}
OutFits w at (goes fine s k) = Fits w at s
OutFits w at (goes too_deep s k) = Unit {0}
OutFits w at (goes (repeated p) s k) = TwiceFits w at p s

-- the byte at the place at, in a text that is UTF-8
pub record IsByte (w : List ℕ) (at b : ℕ) : Type 0 where
  pub utf8 : IsUtf8 w
  pub within : at < length w
  pub byte : get_or w at 0 ≡ b

pub rest_is : (w : List ℕ) (at b : ℕ) → IsByte w at b → drop at w ≡ b ∷ drop (at + 1) w
rest_is w at b h = drop_more w at 0 h.within ∙ ap (λ n. n ∷ drop (at + 1) w) h.byte

more_taken : (w : List ℕ) (p at b : ℕ) → p < at → IsByte w at b → (z : List ℕ) → take (at + 1 - p) (drop p w) ++ z ≡ take (at - p) (drop p w) ++ b ∷ z
more_taken w p at b lt h z =
    let l : at - p < length (drop p w) = (let bound = h.within in omega (arith, Rattle.std.proofs.lemmas.List.length-drop p w)) in
    let n : at + 1 - p ≡ at - p + 1 = omega arith in
    let there : get_or (drop p w) (at - p) 0 ≡ b = Rattle.std.proofs.lemmas.List.get_or-drop p w (at - p) 0 ∙ ap (λ m. get_or w m 0) (let m : p + (at - p) ≡ at = omega arith in m) ∙ h.byte in
    ap (λ m. take m (drop p w) ++ z) n ∙ ap (λ l. l ++ z) (take_more (drop p w) (at - p) 0 l) ∙ append_assoc (take (at - p) (drop p w)) (get_or (drop p w) (at - p) 0 ∷ []) z ∙ ap (λ m. take (at - p) (drop p w) ++ m ∷ z) there

module _ (w : List ℕ) (at b : ℕ) (h : IsByte w at b) where
  begin_fits : (k : Frames) (c : Class) → class_of b ≡ c → OutFits w (at + 1) (begin_class k b c)
  begin_fits k class.Quote e = tt
  begin_fits k class.OpenArray e = opened state.first_item tt k
    where
      opened : (s : State) → Fits w (at + 1) s → (k : Frames) → OutFits w (at + 1) (opens s k)
      opened s f k = by (nat_lt (length k) 256)
        where
          by : (t : Bool) → OutFits w (at + 1) (goes (cond t fine too_deep) s k)
          by true = f
          by false = tt
  begin_fits k class.OpenObject e = by (nat_lt (length k) 256)
    where
      by : (t : Bool) → OutFits w (at + 1) (goes (cond t fine too_deep) state.first_name k)
      by true = tt
      by false = tt
  begin_fits k class.Minus e = tt
  begin_fits k class.Zero e = tt
  begin_fits k class.Digit e = tt
  begin_fits k class.LetterT e = tt
  begin_fits k class.LetterF e = tt
  begin_fits k class.LetterN e = tt
  begin_fits k c e = tt

  value_fits : (k : Frames) (c : Class) → class_of b ≡ c → OutFits w (at + 1) (value_class k b c)
  value_fits k class.Blank e = tt
  value_fits k c e = begin_fits k c e

  item_fits : (k : Frames) (c : Class) → class_of b ≡ c → OutFits w (at + 1) (item_first_class k b c)
  item_fits k class.Blank e = tt
  item_fits k class.CloseArray e = tt
  item_fits k c e = begin_fits (frame.array [] ∷ k) c e

  after_fits : (o : OJson) (k : Frames) (c : Class) → OutFits w (at + 1) (after o k c)
  after_fits o [] class.Blank = tt
  after_fits o [] c = tt
  after_fits o (frame.array xs ∷ k) class.Blank = tt
  after_fits o (frame.array xs ∷ k) class.Comma = tt
  after_fits o (frame.array xs ∷ k) class.CloseArray = tt
  after_fits o (frame.array xs ∷ k) c = tt
  after_fits o (frame.object ms n ∷ k) class.Blank = tt
  after_fits o (frame.object ms n ∷ k) class.Comma = tt
  after_fits o (frame.object ms n ∷ k) class.CloseObject = tt
  after_fits o (frame.object ms n ∷ k) c = tt

  -- a name begins here
  begins_name : (ms : Gathered) → class_of b ≡ class.Quote → Begins IsAny (take at w ++ 10 ∷ []) → Fits w (at + 1) (state.text Plain [] (role.name at ms))
  begins_name ms e starts = record {
    before = omega arith;
    starts = starts;
    reads = λ n z x.
        let quote = of_class b class.Quote e in
        let none : at - at ≡ 0 = omega arith in
        let one : at + 1 - at ≡ 1 = omega arith in
        let head : take (at + 1 - at) (drop at w) ≡ 34 ∷ [] = ap (λ m. take m (drop at w)) one ∙ ap (take 1) (rest_is w at b h) ∙ ap (λ m. m ∷ []) quote in
        (z, x.0, ap (λ l. l ++ z) head, subst (λ (q : List ℕ). Rattle.ts_ojson.specs.Characters.Characters x.0 q z []) x.4.0 (subst (λ (r : List ℕ). Rattle.ts_ojson.specs.Characters.Characters x.0 x.1 z r) x.4.1 x.3));
  }

  first_fits : (k : Frames) (c : Class) → class_of b ≡ c → Begins IsAny (take at w ++ 10 ∷ []) → OutFits w (at + 1) (stays (name_first at c) k)
  first_fits k class.Blank e starts = tt
  first_fits k class.CloseObject e starts = tt
  first_fits k class.Quote e starts = begins_name [] e starts
  first_fits k c e starts = tt

  name_fits : (ms : Gathered) (k : Frames) (c : Class) → class_of b ≡ c → Begins IsAny (take at w ++ 10 ∷ []) → OutFits w (at + 1) (stays (name_next at ms c) k)
  name_fits ms k class.Blank e starts = tt
  name_fits ms k class.Quote e starts = begins_name ms e starts
  name_fits ms k c e starts = tt

  colon_fits : (ms : Gathered) (n : List ℕ) (k : Frames) (c : Class) → OutFits w (at + 1) (colon_next ms n k c)
  colon_fits ms n k class.Blank = tt
  colon_fits ms n k class.Colon = tt
  colon_fits ms n k c = tt

  fits_cond : (x y : Outcome) (t : Bool) → OutFits w (at + 1) x → OutFits w (at + 1) y → OutFits w (at + 1) (cond t x y)
  fits_cond x y true f g = f
  fits_cond x y false f g = g

  word_fits : (x : Word) (i : ℕ) (k : Frames) → OutFits w (at + 1) (word_next x i k b)
  word_fits x i k =
      fits_cond _ _ (nat_lt i (length (word_bytes x))) (fits_cond (goes fine (state.word x (i + 1)) k) stuck (get_or (word_bytes x) i 0 == b) tt tt) (after_fits (word_value x) k (class_of b))

  number_fits : (p : Part) (s : List ℕ) (k : Frames) (o : Option Part) → OutFits w (at + 1) (number_part p s k b o)
  number_fits p s k (Some q) = tt
  number_fits p s k None = fits_cond (after (json.Num s) k (class_of b)) stuck (part_ends p) (after_fits (json.Num s) k (class_of b)) tt

  -- ---- the place of a name
  quoting_on : (e i : Escape) (s t : List ℕ) (p : ℕ) → IsWithin e → IsQuoting w at e s p → next_piece e s b ≡ Some (reading i t) → IsQuoting w (at + 1) i t p
  quoting_on e i s t p is q same = record {
    before = (let lt = q.before in omega arith);
    starts = q.starts;
    reads = λ n z x.
        let K = λ (y : List ℕ) (r : List ℕ). (y ≡ n) × (r ≡ []) in
        let on : InText e s K (b ∷ z) = (text_step K e s z b is).1 (subst (λ (o : Option Piece). PieceMeans K z o) (sym same) x) in
        subst (λ (y : List ℕ). Quoted n y []) (sym (more_taken w p at b q.before h z)) (q.reads n (b ∷ z) on);
  }

  quoted_here : (e : Escape) (s t : List ℕ) (p : ℕ) → IsWithin e → IsQuoting w at e s p → next_piece e s b ≡ Some (finished t) → IsQuoted w (at + 1) t p
  quoted_here e s t p is q same = record {
    before = (let lt = q.before in omega arith);
    starts = q.starts;
    reads =
        let K = λ (y : List ℕ) (r : List ℕ). (y ≡ t) × (r ≡ []) in
        let on : InText e s K (b ∷ []) = (text_step K e s [] b is).1 (subst (λ (o : Option Piece). PieceMeans K [] o) (sym same) (refl, refl)) in
        subst (λ (y : List ℕ). Quoted t y []) (sym (more_taken w p at b q.before h []) ∙ append-nil (take (at + 1 - p) (drop p w))) (q.reads t (b ∷ []) on);
  }

  text_fits : (e : Escape) (s : List ℕ) (r : Role) (k : Frames) (o : Option Piece) → next_piece e s b ≡ o → IsWithin e → RoleFits w at e s r → OutFits w (at + 1) (text_piece r k o)
  text_fits e s r k None same is f = tt
  text_fits e s role.value k (Some (reading i t)) same is f = tt
  text_fits e s (role.name p ms) k (Some (reading i t)) same is f = quoting_on e i s t p is f same
  text_fits e s role.value k (Some (finished t)) same is f = tt
  text_fits e s (role.name p ms) k (Some (finished t)) same is f = by (has_name t ms)
    where
      by : (x : Bool) → OutFits w (at + 1) (goes (cond x (repeated p) fine) (state.colon ms t) k)
      by true = quoted_here e s t p is f same
      by false = tt

  abbrev pub NameStarts : State → Type 0
  NameStarts state.value = Unit {0}
  NameStarts state.first_item = Unit {0}
  NameStarts (state.after o) = Unit {0}
  NameStarts state.first_name = Begins IsAny (take at w ++ 10 ∷ [])
  NameStarts (state.name ms) = Begins IsAny (take at w ++ 10 ∷ [])
  NameStarts (state.colon ms n) = Unit {0}
  NameStarts (state.word x i) = Unit {0}
  NameStarts (state.number p s) = Unit {0}
  NameStarts (state.text e s r) = IsWithin e

  pub fits : (s : State) (k : Frames) → NameStarts s → Fits w at s → OutFits w (at + 1) (next at s k b)
  fits state.value k n f = value_fits k (class_of b) refl
  fits state.first_item k n f = item_fits k (class_of b) refl
  fits (state.after o) k n f = after_fits o k (class_of b)
  fits state.first_name k n f = first_fits k (class_of b) refl n
  fits (state.name ms) k n f = name_fits ms k (class_of b) refl n
  fits (state.colon ms m) k n f = colon_fits ms m k (class_of b)
  fits (state.word x i) k n f = word_fits x i k
  fits (state.number p s) k n f = number_fits p s k (part_next p (class_of b))
  fits (state.text e s r) k n f = text_fits e s r k (next_piece e s b) refl n f
