-- Texts that were parsed at once: one document more, and the lexers that are left.
use Rattle.std.proofs.Common.{◌≡◌, ◌∙◌, sym, ap, refl, subst, ℕ, ◌+◌, ⊎_elim, List, [], ◌∷◌, ◌++◌, length, map, slice_get, Option, Some, None, Result, Ok, Err, option_to_list, arith}
use Rattle.std.specs.Result.{IfOk}
use Rattle.std.proofs.lemmas.List.{length-append}
use Rattle.std.proofs.lemmas.Option.{slice_get_within}
use Rattle.atomic_table.specs.Seated.{TableId}
use Rattle.ts_base.specs.Bytes.{Bytes}
use Rattle.ts_base.proofs.PlaceLemmas.{in_prefix, at_end, push_cases}
use Rattle.ts_table.specs.declared.view.ParseTable.{ParseTable}
use Rattle.ts_lexer.specs.Lexers.{IsLexerOf}
use Rattle.ts_lexer.specs.declared.lexer.Lexer.{Lexer}
use Rattle.ts_docs.specs.Versions.{IsTextOf}
use Rattle.ts_script.specs.declared.plan.Plan.{Plan}
use Rattle.ts_workers.specs.declared.front.Front.{Front}
use Rattle.ts_workers.specs.declared.parsed.Parsed.{Parsed}
use Rattle.ts_workers.specs.Fronts.{IsFront, IsLent, AreFronts}
use Rattle.ts_workers.specs.Openings.{IsParsed, AreParsed, AreLexersOf, AreOpened, AreLeft}
use Rattle.ts_workers.proofs.FrontLemmas.{one_front}
use Rattle.ts_workers.proofs.ListLemmas.{nowhere, same_thing}

-- what follows from two facts of a result, where there is one
pub if_both : {X E : Type 0} (P Q R : X → Type 0) (r : Result X E) → IfOk r P → IfOk r Q → ((x : X) → P x → Q x → R x) → IfOk r R
if_both P Q R (Ok x) p q f = f x p q
if_both P Q R (Err e) p q f = tt

-- ---- lists that grow at their end

pub map_same : {X : Type 0} (xs : List X) → map (λ x. x) xs ≡ xs
map_same [] = refl
map_same (x ∷ xs) = ap (λ l. x ∷ l) (map_same xs)

-- the last of a list, and those before it
last_of : {X : Type 0} (x : X) (xs : List X) → (before : List X) × (last : X) × (x ∷ xs ≡ before ++ last ∷ [])
last_of x [] = ([], x, refl)
last_of x (y ∷ ys) = let r = last_of y ys in (x ∷ r.0, r.1, ap (λ l. x ∷ l) r.2)

-- as many as one more than another list has
one_more : {X Y : Type 0} (xs : List X) (ys : List Y) (y : Y) → length (ys ++ y ∷ []) ≡ length xs → (before : List X) × (last : X) × (xs ≡ before ++ last ∷ [])
one_more [] ys y same = absurd (let more : length (ys ++ y ∷ []) ≡ length ys + 1 = length-append ys (y ∷ []) in let f : ⊥ = omega (arith, same, more) in f)
one_more (x ∷ xs) ys y same = last_of x xs

as_many_before : {X Y : Type 0} (xs : List X) (x : X) (ys : List Y) (y : Y) → length (ys ++ y ∷ []) ≡ length (xs ++ x ∷ []) → length ys ≡ length xs
as_many_before xs x ys y same =
    let a : length (xs ++ x ∷ []) ≡ length xs + 1 = length-append xs (x ∷ []) in
    let b : length (ys ++ y ∷ []) ≡ length ys + 1 = length-append ys (y ∷ []) in
    omega (arith, same, a, b)

pub both_grow : {X Y : Type 0} (xs more : List X) (x : X) (ys : List Y) (y : Y) → more ≡ xs ++ x ∷ [] → length xs ≡ length ys → length more ≡ length (ys ++ y ∷ [])
both_grow xs more x ys y a same =
    let grown : length more ≡ length (xs ++ x ∷ []) = ap (λ l. length l) a in
    let b : length (xs ++ x ∷ []) ≡ length xs + 1 = length-append xs (x ∷ []) in
    let d : length (ys ++ y ∷ []) ≡ length ys + 1 = length-append ys (y ∷ []) in
    omega (arith, grown, same, b, d)

-- one lexer more
pub one_lexer_more : (table : ParseTable) (lexers : List Lexer) (l : Lexer) → AreLexersOf table lexers → IsLexerOf l table → AreLexersOf table (lexers ++ l ∷ [])
one_lexer_more table lexers l are is place x x_is = ⊎_elim
    (λ w. are place x w.1)
    (λ w. subst (λ (y : Lexer). IsLexerOf y table) w.1 is)
    (push_cases lexers l place x x_is)

-- ---- texts that were parsed

module _ {E : Type 0} (table : ParseTable) where
  -- what a thread left for a text
  pub left_there : (job text : Bytes) (x r : Result Parsed E) → job ≡ text → x ≡ r → IfOk x (IsParsed table job) → IfOk r (IsParsed table text)
  left_there job text x r same is parsed =
      subst (λ (t : Bytes). IfOk r (IsParsed table t)) same (subst (λ (y : Result Parsed E). IfOk y (IsParsed table job)) is parsed)

  -- without the last of them
  parsed_before : (texts : List Bytes) (text : Bytes) (all : List (Result Parsed E)) (r : Result Parsed E)
      → AreParsed table (texts ++ text ∷ []) (all ++ r ∷ []) → AreParsed table texts all
  parsed_before texts text all r are = record {
    count = as_many_before texts text all r are.count;
    each = λ place t x t_is x_is.
        are.each place t x
        (in_prefix texts (text ∷ []) place (slice_get_within texts place t t_is) ∙ t_is)
        (in_prefix all (r ∷ []) place (slice_get_within all place x x_is) ∙ x_is);
  }

  -- the last of them
  parsed_last : (texts : List Bytes) (text : Bytes) (all : List (Result Parsed E)) (r : Result Parsed E)
      → AreParsed table (texts ++ text ∷ []) (all ++ r ∷ []) → IfOk r (IsParsed table text)
  parsed_last texts text all r are =
      are.each (length texts) text r (at_end texts text)
      (subst (λ (k : ℕ). slice_get (all ++ r ∷ []) k ≡ Some r) (as_many_before texts text all r are.count) (at_end all r))

  -- ---- documents

  pub none_opened : (plan : Plan) (shelves : List TableId) (fronts : List Front) → shelves ≡ [] → fronts ≡ [] → AreOpened {E = E} table plan shelves fronts []
  none_opened plan shelves fronts no_shelf no_front texts are = record {
    shelves_are = ap length no_shelf ∙ are.count;
    count = ap length no_front ∙ sym (ap length no_shelf);
    each = λ document opening shelf f o_is s_is f_is. absurd (nowhere document f (sym (ap (λ (l : List Front). slice_get l document) no_front) ∙ f_is));
    lent = λ document f f_is. absurd (nowhere document f (sym (ap (λ (l : List Front). slice_get l document) no_front) ∙ f_is));
  }

  one_opened : (plan : Plan) (shelves : List TableId) (fronts : List Front) (all : List (Result Parsed E)) (p : Parsed) (shelf : TableId) (front : Front)
      → AreOpened table plan shelves fronts all
      → ((text : Bytes) → IsTextOf table 0 text p.version → IsFront table text shelf front) → IsLent plan (length fronts) 0 front.pass.knows
      → AreOpened table plan (shelves ++ shelf ∷ []) (fronts ++ front ∷ []) (all ++ Ok p ∷ [])
  one_opened plan shelves fronts all p shelf front opened is lent texts are =
      let cut = one_more texts all (Ok p) are.count in
      let here : AreParsed table (cut.0 ++ cut.1 ∷ []) (all ++ Ok p ∷ []) = subst (λ (l : List Bytes). AreParsed table l (all ++ Ok p ∷ [])) cut.2 are in
      subst (λ (l : List Bytes). AreFronts plan table l (shelves ++ shelf ∷ []) 0 (fronts ++ front ∷ [])) (sym cut.2)
      (one_front plan table cut.0 shelves fronts cut.1 shelf front (opened cut.0 (parsed_before cut.0 cut.1 all (Ok p) here))
      (is cut.1 (parsed_last cut.0 cut.1 all (Ok p) here).version) lent)

  -- after one turn of the loop
  pub opened_more : (plan : Plan) (shelves more : List TableId) (fronts others : List Front) (all : List (Result Parsed E)) (r : Result Parsed E) (p : Parsed) (shelf : TableId) (front : Front)
      → more ≡ shelves ++ shelf ∷ [] → others ≡ fronts ++ front ∷ [] → r ≡ Ok p → AreOpened table plan shelves fronts all
      → ((text : Bytes) → IsTextOf table 0 text p.version → IsFront table text shelf front) → IsLent plan (length fronts) 0 front.pass.knows
      → AreOpened table plan more others (all ++ r ∷ [])
  opened_more plan shelves more fronts others all r p shelf front a b e opened is lent =
      subst (λ (l : List TableId). AreOpened table plan l others (all ++ r ∷ [])) (sym a)
      (subst (λ (l : List Front). AreOpened table plan (shelves ++ shelf ∷ []) l (all ++ r ∷ [])) (sym b)
      (subst (λ (x : Result Parsed E). AreOpened table plan (shelves ++ shelf ∷ []) (fronts ++ front ∷ []) (all ++ x ∷ [])) (sym e)
      (one_opened plan shelves fronts all p shelf front opened is lent)))

  pub none_left : (lexers : List Lexer) → lexers ≡ [] → AreLeft {E = E} table lexers []
  none_left lexers none texts are place l l_is = absurd (nowhere place l (sym (ap (λ (x : List Lexer). slice_get x place) none) ∙ l_is))

  one_left : (lexers : List Lexer) (all : List (Result Parsed E)) (p : Parsed) → AreLeft table lexers all → AreLeft table (lexers ++ p.lexer ∷ []) (all ++ Ok p ∷ [])
  one_left lexers all p lexing texts are =
      let cut = one_more texts all (Ok p) are.count in
      let here : AreParsed table (cut.0 ++ cut.1 ∷ []) (all ++ Ok p ∷ []) = subst (λ (l : List Bytes). AreParsed table l (all ++ Ok p ∷ [])) cut.2 are in
      one_lexer_more table lexers p.lexer (lexing cut.0 (parsed_before cut.0 cut.1 all (Ok p) here)) (parsed_last cut.0 cut.1 all (Ok p) here).lexer

  -- after one turn of the loop
  pub left_more : (lexers more : List Lexer) (all : List (Result Parsed E)) (r : Result Parsed E) (p : Parsed)
      → more ≡ lexers ++ p.lexer ∷ [] → r ≡ Ok p → AreLeft table lexers all → AreLeft table more (all ++ r ∷ [])
  left_more lexers more all r p a e left =
      subst (λ (l : List Lexer). AreLeft table l (all ++ r ∷ [])) (sym a)
      (subst (λ (x : Result Parsed E). AreLeft table (lexers ++ p.lexer ∷ []) (all ++ x ∷ [])) (sym e) (one_left lexers all p left))

-- the first of these lexers
lexers_before : (table : ParseTable) (lexers rest : List Lexer) → AreLexersOf table (lexers ++ rest) → AreLexersOf table lexers
lexers_before table lexers rest are place x x_is = are place x (in_prefix lexers rest place (slice_get_within lexers place x x_is) ∙ x_is)

-- the last of these lexers
last_lexer : (table : ParseTable) (lexers : List Lexer) (l : Lexer) → AreLexersOf table (lexers ++ l ∷ []) → IsLexerOf l table
last_lexer table lexers l are = are (length lexers) l (at_end lexers l)

-- after the last lexer was taken
pub lexers_left : (table : ParseTable) (old new : List Lexer) (taken : Option Lexer) → AreLexersOf table old → old ≡ new ++ option_to_list taken → AreLexersOf table new
lexers_left table old new taken are same = lexers_before table new (option_to_list taken) (subst (AreLexersOf table) same are)

-- the lexer that was taken
pub lexer_taken : (table : ParseTable) (old new : List Lexer) (taken : Option Lexer) (l : Lexer) → AreLexersOf table old → old ≡ new ++ option_to_list taken → taken ≡ Some l → IsLexerOf l table
lexer_taken table old new (Some x) l are same is =
    subst (λ (y : Lexer). IsLexerOf y table) (same_thing x l is) (last_lexer table new x (subst (AreLexersOf table) same are))
lexer_taken table old new None l are same is = absurd (let f : None ≡ Some l = is in cc)
