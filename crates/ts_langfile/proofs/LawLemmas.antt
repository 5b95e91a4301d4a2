-- A reader against a spelling: what is read is spelled so, and what is spelled so is read.
use Rattle.std.proofs.Common.{◌≡◌, ◌∙◌, refl, sym, ap, subst, ℕ, zero, suc, ◌+◌, ◌^◌, ◌<◌, ◌≤◌, Bool, true, false, cond, ltb, List, [], ◌∷◌, ◌++◌, length, get_or, take, drop, Option, Some, None, Result, Ok, Err, append_assoc, arith, inl, inr}
use Rattle.std.specs.Int.{Width, w16, w32, byte_len, from_be_bytes, to_be_bytes}
use Rattle.std.specs.List.{flat_map, AllByRecursion}
use Rattle.std.proofs.lemmas.Bool.{cases_lt, ltb-false, le-ltb}
use Rattle.std.proofs.lemmas.List.{append-nil, take_at, drop_at, take-append-drop, length-append, length-take, get_or-drop, get_or-take, get_or_past}
use Rattle.std.proofs.lemmas.Nat.{be_bytes_2, be_bytes_4, from_be_bytes-to_be_bytes_2, from_be_bytes-to_be_bytes_4}
use Rattle.ts_base.specs.Bytes.{Bytes}
use Rattle.ts_langfile.specs.declared.flaw.Flaw.{Flaw}
use Rattle.ts_langfile.specs.declared.flaw.Flaw.TheVariants.{Short, Field}
use Rattle.ts_langfile.specs.Reader.{SeenBytes, Reader, going_on, ◌>>=◌, give, byte_at, bytes_at, number_at, passing, tested, times, in_turn}
use Rattle.ts_langfile.specs.Right.{InTurn}
use Rattle.ts_langfile.specs.Spelling.{number16, number32}
use Rattle.ts_langfile.specs.Parts.{number16_at, number32_at}
use Rattle.std.proofs.lemmas.List.Concat.{flat_map-cons}

abbrev pub AreBytes : Bytes → Type 0
AreBytes bytes = (i : ℕ) → get_or bytes i 0 < 256

bytes_behind : (n : ℕ) (bytes : Bytes) → AreBytes bytes → AreBytes (drop n bytes)
bytes_behind n bytes h i = rw get_or-drop (h (n + i))

bytes_before : (n : ℕ) (bytes : Bytes) → AreBytes bytes → AreBytes (take n bytes)
bytes_before n bytes h i =
    elim (cases_lt i n) [
      | inl lt ↦ rw (get_or-take n bytes i 0 lt) (h i)
      | inr le ↦ rw (get_or_past (take n bytes) i 0 (omega (arith, length-take n bytes))) (omega arith)
    ]

-- what a reader took from the front
pub record Took (bytes text rest : Bytes) : Type 0 where
  pub parts : bytes ≡ text ++ rest
  pub behind : AreBytes rest

pub record Law {A : Type 0} (part : Reader A) (spelled : A → Bytes) (Right : A → Type 0) : Type 0 where
  pub takes : (bytes : Bytes) (x : A) (rest : Bytes) → AreBytes bytes → part bytes ≡ Ok (x, rest) → Took bytes (spelled x) rest × Right x
  pub again : (x : A) (rest : Bytes) → Right x → part (spelled x ++ rest) ≡ Ok (x, rest)

-- ---- putting laws together

abbrev pub seen : {A : Type 0} → A → Bytes → SeenBytes A
seen x rest = Ok (x, rest)

pub seen_is : {A : Type 0} (x y : A) (r s : Bytes) → seen x r ≡ seen y s → (x ≡ y) × (r ≡ s)
seen_is {A = A} x y r s e =
    let pair : ◌≡◌ {A = A × Bytes} (x, r) (y, s) = cc in
    (ap (λ (p : A × Bytes). p.0) pair, ap (λ (p : A × Bytes). p.1) pair)

pub went_on : {A B : Type 0} (read : SeenBytes A) (next : A → Reader B) (y : B) (rest : Bytes) → going_on read next ≡ Ok (y, rest)
    → (x : A) × (middle : Bytes) × (read ≡ Ok (x, middle)) × (next x middle ≡ Ok (y, rest))
went_on (Ok x) next y rest e = (x.0, x.1, refl, e)
went_on (Err flaw) next y rest e = absurd cc

pub give_law : {A : Type 0} (x : A) → Law (give x) (λ y. []) (λ y. y ≡ x)
give_law x = record {
  takes = λ bytes y rest are e. let is = seen_is x y bytes rest e in (record { parts = is.1; behind = subst AreBytes is.1 are }, sym is.0);
  again = λ y rest is. ap (λ z. seen z rest) (sym is);
}

pub after_law : {A B : Type 0} {part : Reader A} {next : A → Reader B} {spelled : A → Bytes} {Right : A → Type 0} {more : B → Bytes} {RightThen : A → B → Type 0} (first : B → A) → Law part spelled Right
    → ((x : A) → Right x → Law (next x) more (RightThen x)) → ((x : A) (y : B) → Right x → RightThen x y → first y ≡ x)
    → Law (part >>= next) (λ y. spelled (first y) ++ more y) (λ y. Right (first y) × RightThen (first y) y)
after_law {part = part} {next = next} {spelled = spelled} {Right = Right} {more = more} {RightThen = RightThen} first law after told = record {
  takes = λ bytes y rest are e.
      let w = went_on (part bytes) next y rest e in
      let one = law.takes bytes w.0 w.1 are w.2 in
      let two = (after w.0 one.1).takes w.1 y rest one.0.behind w.3 in
      let is : w.0 ≡ first y = sym (told w.0 y one.1 two.1) in
      let parts : bytes ≡ (spelled w.0 ++ more y) ++ rest = one.0.parts ∙ ap (λ (b : Bytes). spelled w.0 ++ b) two.0.parts ∙ sym (append_assoc (spelled w.0) (more y) rest) in
      subst (λ (x : _). Took bytes (spelled x ++ more y) rest × (Right x × RightThen x y)) is (record { parts = parts; behind = two.0.behind }, (one.1, two.1));
  again = λ y rest right.
      let one : part (spelled (first y) ++ (more y ++ rest)) ≡ Ok (first y, more y ++ rest) = law.again (first y) (more y ++ rest) right.0 in
      let two : next (first y) (more y ++ rest) ≡ Ok (y, rest) = (after (first y) right.0).again y rest right.1 in
      rw (append_assoc (spelled (first y)) (more y) rest, one) two;
}

pub then_law : {A B : Type 0} {part : Reader A} {next : A → Reader B} {spelled : A → Bytes} {Right : A → Type 0} {more : B → Bytes} {RightThen : A → B → Type 0} (first : B → A) → Law part spelled Right
    → ((x : A) → Right x → Law (next x) more (RightThen x)) → ((x : A) (y : B) → RightThen x y → first y ≡ x)
    → Law (part >>= next) (λ y. spelled (first y) ++ more y) (λ y. Right (first y) × RightThen (first y) y)
then_law first law after told = after_law first law after (λ x y right behind. told x y behind)

-- the same with other words for what is right
pub as_law : {A : Type 0} {part : Reader A} {spelled : A → Bytes} {Right Wanted : A → Type 0} → Law part spelled Right → ((x : A) → Right x → Wanted x) → ((x : A) → Wanted x → Right x) → Law part spelled Wanted
as_law law to from = record {
  takes = λ bytes x rest are e. let one = law.takes bytes x rest are e in (one.0, to x one.1);
  again = λ x rest right. law.again x rest (from x right);
}

-- the same, spelled in other words
pub spelled_law : {A : Type 0} {part : Reader A} {spelled other : A → Bytes} {Right : A → Type 0} → Law part spelled Right → ((x : A) → Right x → spelled x ≡ other x) → Law part other Right
spelled_law {part = part} law same = record {
  takes = λ bytes x rest are e. let one = law.takes bytes x rest are e in (rw (← same x one.1) one.0, one.1);
  again = λ x rest right. rw (← same x right) (law.again x rest right);
}

-- the last part needs nothing behind it
pub alone_law : {A : Type 0} {part : Reader A} {spelled : A → Bytes} {Right : A → Type 0} → Law part spelled Right → Law part (λ x. spelled x ++ []) Right
alone_law {spelled = spelled} law = spelled_law law (λ x right. sym (append-nil (spelled x)))

-- a value that is made of what is read
pub made_law : {A B : Type 0} {part : Reader A} {spelled : A → Bytes} {Right : A → Type 0} (make : A → B) (all : B → Bytes) → Law part spelled Right → ((x : A) → Right x → all (make x) ≡ spelled x)
    → Law (part >>= λ x. give (make x)) all (λ y. (x : A) × (y ≡ make x) × Right x)
made_law {part = part} {spelled = spelled} {Right = Right} make all law same = record {
  takes = λ bytes y rest are e.
      let w = went_on (part bytes) (λ x. give (make x)) y rest e in
      let one = law.takes bytes w.0 w.1 are w.2 in
      let is = seen_is (make w.0) y w.1 rest w.3 in
      let taken : Took bytes (all (make w.0)) w.1 = rw (same w.0 one.1) one.0 in
      (subst (λ (b : Bytes). Took bytes (all y) b) is.1 (subst (λ (z : _). Took bytes (all z) w.1) is.0 taken), (w.0, sym is.0, one.1));
  again = λ y rest right.
      let one : part (spelled right.0 ++ rest) ≡ Ok (right.0, rest) = law.again right.0 rest right.2 in
      rw (right.1, same right.0 right.2, one) refl;
}

pub passed : {A : Type 0} (test : A → Bool) (place : Bytes) (read : SeenBytes A) (x : A) (rest : Bytes) → passing test place read ≡ Ok (x, rest) → (read ≡ Ok (x, rest)) × (test x ≡ true)
passed {A = A} test place (Ok y) x rest e = by (test y.0) refl e
  where
    by : (b : Bool) → test y.0 ≡ b → cond b (seen y.0 y.1) (Err (Field (length place))) ≡ Ok (x, rest) → (seen y.0 y.1 ≡ Ok (x, rest)) × (test x ≡ true)
    by true t e = let is = seen_is y.0 x y.1 rest e in (e, ap test (sym is.0) ∙ t)
    by false t e = absurd cc
passed test place (Err flaw) x rest e = absurd cc

pub tested_law : {A : Type 0} {part : Reader A} {spelled : A → Bytes} {Right : A → Type 0} (test : A → Bool) → Law part spelled Right → Law (tested part test) spelled (λ x. Right x × (test x ≡ true))
tested_law {part = part} {spelled = spelled} test law = record {
  takes = λ bytes x rest are e.
      let w = passed test bytes (part bytes) x rest e in
      let one = law.takes bytes x rest are w.0 in
      (one.0, (one.1, w.1));
  again = λ x rest right. rw (law.again x rest right.0, right.1) refl;
}

-- ---- several parts

times_takes : {A : Type 0} {part : Reader A} {spelled : A → Bytes} {Right : A → Type 0} → Law part spelled Right → (n : ℕ) (bytes : Bytes) (xs : List A) (rest : Bytes) → AreBytes bytes → times n part bytes ≡ Ok (xs, rest)
    → Took bytes (flat_map spelled xs) rest × ((length xs ≡ n) × AllByRecursion Right xs)
times_takes {A = A} {spelled = spelled} {Right = Right} law zero bytes xs rest are e =
    let is = seen_is [] xs bytes rest e in
    subst (λ (ys : List A). Took bytes (flat_map spelled ys) rest × ((length ys ≡ 0) × AllByRecursion Right ys)) is.0 (record { parts = is.1; behind = subst AreBytes is.1 are }, (refl, tt))
times_takes {A = A} {part = part} {spelled = spelled} {Right = Right} law (suc n) bytes xs rest are e =
    let w = went_on (part bytes) (λ (first : A). times n part >>= λ (others : List A). give (first ∷ others)) xs rest e in
    let v = went_on (times n part w.1) (λ (others : List A). give (w.0 ∷ others)) xs rest w.3 in
    let is = seen_is (w.0 ∷ v.0) xs v.1 rest v.3 in
    let one = law.takes bytes w.0 w.1 are w.2 in
    let two = times_takes law n w.1 v.0 v.1 one.0.behind v.2 in
    let parts : bytes ≡ (spelled w.0 ++ flat_map spelled v.0) ++ v.1 = one.0.parts ∙ ap (λ (b : Bytes). spelled w.0 ++ b) two.0.parts ∙ sym (append_assoc (spelled w.0) (flat_map spelled v.0) v.1) in
    let whole : Took bytes (flat_map spelled (w.0 ∷ v.0)) v.1 = record { parts = rw flat_map-cons parts; behind = two.0.behind } in
    let all : Took bytes (flat_map spelled (w.0 ∷ v.0)) rest = subst (λ (b : Bytes). Took bytes (flat_map spelled (w.0 ∷ v.0)) b) is.1 whole in
    subst (λ (ys : List A). Took bytes (flat_map spelled ys) rest × ((length ys ≡ suc n) × AllByRecursion Right ys)) is.0 (all, (ap suc two.1.0, (one.1, two.1.1)))

times_again : {A : Type 0} {part : Reader A} {spelled : A → Bytes} {Right : A → Type 0} → Law part spelled Right → (xs : List A) (rest : Bytes) → AllByRecursion Right xs → times (length xs) part (flat_map spelled xs ++ rest) ≡ Ok (xs, rest)
times_again law [] rest right = refl
times_again {part = part} {spelled = spelled} law (x ∷ xs) rest right =
    let regrouped : flat_map spelled (x ∷ xs) ++ rest ≡ spelled x ++ (flat_map spelled xs ++ rest) = ap (λ (b : Bytes). b ++ rest) (flat_map-cons spelled x xs) ∙ append_assoc (spelled x) (flat_map spelled xs) rest in
    ap (times (suc (length xs)) part) regrouped ∙ rw (law.again x (flat_map spelled xs ++ rest) right.0, times_again law xs rest right.1) refl

pub times_law : {A : Type 0} {part : Reader A} {spelled : A → Bytes} {Right : A → Type 0} → Law part spelled Right → (n : ℕ) → Law (times n part) (flat_map spelled) (λ xs. (length xs ≡ n) × AllByRecursion Right xs)
times_law {A = A} {part = part} {spelled = spelled} law n = record {
  takes = λ bytes xs rest are e. times_takes law n bytes xs rest are e;
  again = λ xs rest right. subst (λ (k : ℕ). times k part (flat_map spelled xs ++ rest) ≡ Ok (xs, rest)) right.0 (times_again law xs rest right.1);
}

turn_takes : {S A : Type 0} {part : S → Reader A} {spelled : A → Bytes} {Right : S → A → Type 0} (after : S → A → S) → ((state : S) → Law (part state) spelled (Right state)) → (n : ℕ) (state : S) (bytes : Bytes) (xs : List A) (rest : Bytes) → AreBytes bytes
    → in_turn part after n state bytes ≡ Ok (xs, rest) → Took bytes (flat_map spelled xs) rest × ((length xs ≡ n) × InTurn Right after state xs)
turn_takes {A = A} {spelled = spelled} {Right = Right} after law zero state bytes xs rest are e =
    let is = seen_is [] xs bytes rest e in
    subst (λ (ys : List A). Took bytes (flat_map spelled ys) rest × ((length ys ≡ 0) × InTurn Right after state ys)) is.0 (record { parts = is.1; behind = subst AreBytes is.1 are }, (refl, tt))
turn_takes {A = A} {part = part} {spelled = spelled} {Right = Right} after law (suc n) state bytes xs rest are e =
    let w = went_on (part state bytes) (λ (first : A). in_turn part after n (after state first) >>= λ (others : List A). give (first ∷ others)) xs rest e in
    let v = went_on (in_turn part after n (after state w.0) w.1) (λ (others : List A). give (w.0 ∷ others)) xs rest w.3 in
    let is = seen_is (w.0 ∷ v.0) xs v.1 rest v.3 in
    let one = (law state).takes bytes w.0 w.1 are w.2 in
    let two = turn_takes after law n (after state w.0) w.1 v.0 v.1 one.0.behind v.2 in
    let parts : bytes ≡ (spelled w.0 ++ flat_map spelled v.0) ++ v.1 = one.0.parts ∙ ap (λ (b : Bytes). spelled w.0 ++ b) two.0.parts ∙ sym (append_assoc (spelled w.0) (flat_map spelled v.0) v.1) in
    let whole : Took bytes (flat_map spelled (w.0 ∷ v.0)) v.1 = record { parts = rw flat_map-cons parts; behind = two.0.behind } in
    let all : Took bytes (flat_map spelled (w.0 ∷ v.0)) rest = subst (λ (b : Bytes). Took bytes (flat_map spelled (w.0 ∷ v.0)) b) is.1 whole in
    subst (λ (ys : List A). Took bytes (flat_map spelled ys) rest × ((length ys ≡ suc n) × InTurn Right after state ys)) is.0 (all, (ap suc two.1.0, (one.1, two.1.1)))

turn_again : {S A : Type 0} {part : S → Reader A} {spelled : A → Bytes} {Right : S → A → Type 0} (after : S → A → S) → ((state : S) → Law (part state) spelled (Right state)) → (state : S) (xs : List A) (rest : Bytes) → InTurn Right after state xs
    → in_turn part after (length xs) state (flat_map spelled xs ++ rest) ≡ Ok (xs, rest)
turn_again after law state [] rest right = refl
turn_again {part = part} {spelled = spelled} after law state (x ∷ xs) rest right =
    let regrouped : flat_map spelled (x ∷ xs) ++ rest ≡ spelled x ++ (flat_map spelled xs ++ rest) = ap (λ (b : Bytes). b ++ rest) (flat_map-cons spelled x xs) ∙ append_assoc (spelled x) (flat_map spelled xs) rest in
    ap (in_turn part after (suc (length xs)) state) regrouped ∙ rw ((law state).again x (flat_map spelled xs ++ rest) right.0, turn_again after law (after state x) xs rest right.1) refl

pub turn_law : {S A : Type 0} {part : S → Reader A} {spelled : A → Bytes} {Right : S → A → Type 0} (after : S → A → S) → ((state : S) → Law (part state) spelled (Right state)) → (n : ℕ) (state : S)
    → Law (in_turn part after n state) (flat_map spelled) (λ xs. (length xs ≡ n) × InTurn Right after state xs)
turn_law {part = part} {spelled = spelled} after law n state = record {
  takes = λ bytes xs rest are e. turn_takes after law n state bytes xs rest are e;
  again = λ xs rest right. subst (λ (k : ℕ). in_turn part after k state (flat_map spelled xs ++ rest) ≡ Ok (xs, rest)) right.0 (turn_again after law state xs rest right.1);
}

-- ---- numbers

record IsWide (w : Width) (bound : ℕ) : Type 0 where
  size : (n : ℕ) → length (to_be_bytes w n) ≡ byte_len w
  back : (bytes : Bytes) → length bytes ≡ byte_len w → AreBytes bytes → to_be_bytes w (from_be_bytes w bytes) ≡ bytes
  same : (n : ℕ) → n < bound → from_be_bytes w (to_be_bytes w n) ≡ n
  below : (bytes : Bytes) → AreBytes bytes → from_be_bytes w bytes < bound

wide16 : IsWide w16 (2 ^ 16)
wide16 = record {
  size = λ n. refl;
  back = λ bytes size are. be_bytes_2 bytes _ size are refl;
  same = λ n lt. from_be_bytes-to_be_bytes_2 n lt;
  below = λ bytes are. omega (arith, are 0, are 1);
}

wide32 : IsWide w32 (2 ^ 32)
wide32 = record {
  size = λ n. refl;
  back = λ bytes size are. be_bytes_4 bytes _ size are refl;
  same = λ n lt. from_be_bytes-to_be_bytes_4 n lt;
  below = λ bytes are. omega (arith, are 0, are 1, are 2, are 3);
}

split_ok : {A : Type 0} (b : Bool) (flaw : Flaw) (x y : A) (r s : Bytes) → cond b (Err flaw) (seen x r) ≡ Ok (y, s) → (b ≡ false) × ((x ≡ y) × (r ≡ s))
split_ok true flaw x y r s e = absurd cc
split_ok false flaw x y r s e = (refl, seen_is x y r s e)

number_takes : (w : Width) (bound : ℕ) → IsWide w bound → (bytes : Bytes) (n : ℕ) (rest : Bytes) → AreBytes bytes → number_at w bytes ≡ Ok (n, rest) → Took bytes (to_be_bytes w n) rest × (n < bound)
unfolding number_at
number_takes w bound wide bytes n rest are e =
    let g = split_ok (ltb (length bytes) (byte_len w)) (Short (length bytes)) (from_be_bytes w (take (byte_len w) bytes)) n (drop (byte_len w) bytes) rest e in
    let long : byte_len w ≤ length bytes = ltb-false _ _ g.0 in
    let is = g.1.0 in
    let after = g.1.1 in
    let front : to_be_bytes w n ≡ take (byte_len w) bytes = rw (← is) (wide.back (take (byte_len w) bytes) (omega (arith, length-take (byte_len w) bytes)) (bytes_before (byte_len w) bytes are)) in
    (record { parts = rw (front, ← after) (sym (take-append-drop (byte_len w) bytes)); behind = rw (← after) (bytes_behind (byte_len w) bytes are) }, rw (← is) (wide.below (take (byte_len w) bytes) (bytes_before (byte_len w) bytes are)))

number_again : (w : Width) (bound : ℕ) → IsWide w bound → (n : ℕ) (rest : Bytes) → n < bound → number_at w (to_be_bytes w n ++ rest) ≡ Ok (n, rest)
unfolding number_at
number_again w bound wide n rest lt =
    let size = wide.size n in
    let long : ltb (length (to_be_bytes w n ++ rest)) (byte_len w) ≡ false = le-ltb _ _ (omega (arith, length-append (to_be_bytes w n) rest)) in
    rw (long, take_at (to_be_bytes w n) rest (byte_len w) size, drop_at (to_be_bytes w n) rest (byte_len w) size, wide.same n lt) refl

pub number16_law : Law number16_at number16 (λ n. n < 2 ^ 16)
unfolding number16_at
number16_law = record { takes = λ bytes n rest are e. number_takes w16 (2 ^ 16) wide16 bytes n rest are e; again = λ n rest lt. number_again w16 (2 ^ 16) wide16 n rest lt }

pub number32_law : Law number32_at number32 (λ n. n < 2 ^ 32)
unfolding number32_at
number32_law = record { takes = λ bytes n rest are e. number_takes w32 (2 ^ 32) wide32 bytes n rest are e; again = λ n rest lt. number_again w32 (2 ^ 32) wide32 n rest lt }

-- a byte is spelled by itself
byte_takes : (bytes : Bytes) (b : ℕ) (rest : Bytes) → AreBytes bytes → byte_at bytes ≡ Ok (b, rest) → Took bytes (b ∷ []) rest × Unit {0}
byte_takes [] b rest are e = absurd cc
byte_takes (x ∷ bytes) b rest are e =
    let is = seen_is x b bytes rest e in
    let first = is.0 in
    let after = is.1 in
    (record { parts = rw (first, after) refl; behind = subst AreBytes after (λ i. are (suc i)) }, tt)

pub byte_law : Law byte_at (λ b. b ∷ []) (λ b. Unit {0})
byte_law = record { takes = λ bytes b rest are e. byte_takes bytes b rest are e; again = λ b rest right. refl }

-- ---- texts

bytes_takes : (n : ℕ) (bytes : Bytes) (text : Bytes) (rest : Bytes) → AreBytes bytes → bytes_at n bytes ≡ Ok (text, rest) → Took bytes text rest × (length text ≡ n)
unfolding bytes_at
bytes_takes n bytes text rest are e =
    let g = split_ok (ltb (length bytes) n) (Short (length bytes)) (take n bytes) text (drop n bytes) rest e in
    let long : n ≤ length bytes = ltb-false _ _ g.0 in
    let is = g.1.0 in
    let after = g.1.1 in
    (record { parts = rw (← is, ← after) (sym (take-append-drop n bytes)); behind = rw (← after) (bytes_behind n bytes are) }, rw (← is) (omega (arith, length-take n bytes)))

bytes_again : (n : ℕ) (text rest : Bytes) → length text ≡ n → bytes_at n (text ++ rest) ≡ Ok (text, rest)
unfolding bytes_at
bytes_again n text rest size =
    let long : ltb (length (text ++ rest)) n ≡ false = le-ltb _ _ (omega (arith, length-append text rest)) in
    rw (long, take_at text rest n size, drop_at text rest n size) refl

pub bytes_law : (n : ℕ) → Law (bytes_at n) (λ text. text) (λ text. length text ≡ n)
bytes_law n = record { takes = λ bytes text rest are e. bytes_takes n bytes text rest are e; again = λ text rest size. bytes_again n text rest size }
