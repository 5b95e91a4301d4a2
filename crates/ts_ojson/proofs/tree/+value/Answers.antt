use Rattle.std.proofs.Common.{◌≡◌, ◌+◌, ◌<◌, ◌++◌, get_or, [], ◌∷◌, Some, refl, arith}
use Rattle.std.proofs.lemmas.Result.{IfOk-weaker, IfErr-weaker}
use Rattle.ts_ojson.specs.declared.class.Class.TheVariants as class
use Rattle.ts_ojson.specs.declared.escape.Escape.TheVariants.{Plain}
use Rattle.ts_ojson.specs.declared.part.Part.TheVariants as part
use Rattle.ts_ojson.specs.declared.word.Word.TheVariants as word
use Rattle.ts_ojson.specs.Frames as frame
use Rattle.ts_ojson.specs.Roles as role
use Rattle.ts_ojson.specs.States as state
use Rattle.ts_ojson.specs.Places.{class_there}
use Rattle.ts_ojson.proofs.PlaceLemmas.{pass_value, pass_item, pass_first, pass_name, pass_end, starts_value, starts_item, named_first, named_next, start_on, start_deep, few, array_none, array_more, array_close, array_stuck, object_none, object_more, object_close, object_stuck}
use Rattle.ts_ojson.proofs.tree.+value.Goals as goal

pub array-returns-then-eq-clause-ok : goal.array-returns-then-eq-clause-ok
array-returns-then-eq-clause-ok t c k e h =
    let w = c.args.text.now in
    let b = c.blanks_end-at in
    let is : class_there w b.result ≡ Some class.CloseArray = grind arith in
    rw c.new-items.ensures (array_none w b.result k (pass_item w c.args.from b.result k b.ensures.within.0 b.ensures.blanks h) is)

pub array-loop-items-init : goal.array-loop-items-init
array-loop-items-init t c =
    let w = c.args.text.now in
    let b = c.blanks_end-at in
    let differ : class_there w b.result ≡ Some class.CloseArray → ⊥ = grind arith in
    record {
      within = b.ensures.within;
      starts = λ k e h. rw c.new-items.ensures (starts_item w b.result k b.ensures.stop differ (pass_item w c.args.from b.result k b.ensures.within.0 b.ensures.blanks h));
    }

pub array-returns-then-eq-2-clause-ok : goal.array-returns-then-eq-2-clause-ok
array-returns-then-eq-2-clause-ok t c k e h =
    let w = c.args.text.now in
    let b = c.blanks_end-after in
    let is : class_there w b.result ≡ Some class.CloseArray = grind arith in
    let around = frame.array c.loop-items.items ∷ k in
    let ends = c.in_ok-item.ensures.ok around e (c.loop-items.invariant.starts k e h) in
    rw c.in_ok-push.ensures.ok (array_close w b.result c.loop-items.items c.in_ok-item.item k (pass_end w c.in_ok-item.end b.result c.in_ok-item.item around b.ensures.within.0 b.ensures.blanks ends) is)

pub array-returns-then-ne-clause-err : goal.array-returns-then-ne-clause-err
array-returns-then-ne-clause-err t c k e h =
    let w = c.args.text.now in
    let b = c.blanks_end-after in
    let no_close : class_there w b.result ≡ Some class.CloseArray → ⊥ = grind arith in
    let no_comma : class_there w b.result ≡ Some class.Comma → ⊥ = grind arith in
    let around = frame.array c.loop-items.items ∷ k in
    let ends = c.in_ok-item.ensures.ok around e (c.loop-items.invariant.starts k e h) in
    array_stuck w b.result c.loop-items.items c.in_ok-item.item k (pass_end w c.in_ok-item.end b.result c.in_ok-item.item around b.ensures.within.0 b.ensures.blanks ends) b.ensures.stop no_close no_comma

pub array-loop-items-preserved : goal.array-loop-items-preserved
array-loop-items-preserved t c =
    let w = c.args.text.now in
    let b = c.blanks_end-after in
    let m = c.blanks_end-at-in-loop-items in
    let is : class_there w b.result ≡ Some class.Comma = grind arith in
    record {
      within = (omega (arith, c.loop-items.invariant.within.0, c.in_ok-item.ensures.later.0, b.ensures.within.0, m.ensures.within.0), m.ensures.within.1);
      starts = λ k e h.
          let around = frame.array c.loop-items.items ∷ k in
          let ends = c.in_ok-item.ensures.ok around e (c.loop-items.invariant.starts k e h) in
          let more = array_more w b.result c.loop-items.items c.in_ok-item.item k (pass_end w c.in_ok-item.end b.result c.in_ok-item.item around b.ensures.within.0 b.ensures.blanks ends) is in
          let next = frame.array (c.loop-items.items ++ c.in_ok-item.item ∷ []) ∷ k in
          rw c.in_ok-push.ensures.ok (starts_value w m.result next m.ensures.stop (pass_value w (b.result + 1) m.result next m.ensures.within.0 m.ensures.blanks more));
    }

pub object-returns-then-eq-clause-ok : goal.object-returns-then-eq-clause-ok
object-returns-then-eq-clause-ok t c k e h =
    let w = c.args.text.now in
    let b = c.blanks_end-at in
    let is : class_there w b.result ≡ Some class.CloseObject = grind arith in
    rw (c.into_list.ensures, c.new-members.ensures) (object_none w b.result k (pass_first w c.args.from b.result k b.ensures.within.0 b.ensures.blanks h) is)

pub object-loop-claimed-init : goal.object-loop-claimed-init
object-loop-claimed-init t c =
    let w = c.args.text.now in
    let b = c.blanks_end-at in
    let differ : class_there w b.result ≡ Some class.CloseObject → ⊥ = grind arith in
    record {
      within = b.ensures.within;
      named = λ k e h. rw c.new-members.ensures (named_first w b.result k b.ensures.stop differ (pass_first w c.args.from b.result k b.ensures.within.0 b.ensures.blanks h));
    }

pub object-returns-then-eq-2-clause-ok : goal.object-returns-then-eq-2-clause-ok
object-returns-then-eq-2-clause-ok t c k e h =
    let w = c.args.text.now in
    let b = c.blanks_end-after in
    let is : class_there w b.result ≡ Some class.CloseObject = grind arith in
    let ms = c.in_ok-claimed.claimed.0 in
    let around = frame.object ms c.in_ok-claimed.claimed.1 ∷ k in
    let ends = c.in_ok-value.ensures.ok around e (c.in_ok-claimed.ensures.ok k (c.loop-claimed.invariant.named k e h)) in
    rw (c.into_list-then-eq-2.ensures, c.in_ok-members.ensures) (object_close w b.result ms c.in_ok-claimed.claimed.1 c.in_ok-value.value k (pass_end w c.in_ok-value.end b.result c.in_ok-value.value around b.ensures.within.0 b.ensures.blanks ends) is)

pub object-returns-then-ne-clause-err : goal.object-returns-then-ne-clause-err
object-returns-then-ne-clause-err t c k e h =
    let w = c.args.text.now in
    let b = c.blanks_end-after in
    let no_close : class_there w b.result ≡ Some class.CloseObject → ⊥ = grind arith in
    let no_comma : class_there w b.result ≡ Some class.Comma → ⊥ = grind arith in
    let ms = c.in_ok-claimed.claimed.0 in
    let around = frame.object ms c.in_ok-claimed.claimed.1 ∷ k in
    let ends = c.in_ok-value.ensures.ok around e (c.in_ok-claimed.ensures.ok k (c.loop-claimed.invariant.named k e h)) in
    object_stuck w b.result ms c.in_ok-claimed.claimed.1 c.in_ok-value.value k (pass_end w c.in_ok-value.end b.result c.in_ok-value.value around b.ensures.within.0 b.ensures.blanks ends) b.ensures.stop no_close no_comma

pub object-loop-claimed-preserved : goal.object-loop-claimed-preserved
object-loop-claimed-preserved t c =
    let w = c.args.text.now in
    let b = c.blanks_end-after in
    let m = c.blanks_end-at-in-loop-claimed in
    let is : class_there w b.result ≡ Some class.Comma = grind arith in
    let ms = c.in_ok-claimed.claimed.0 in
    let n = c.in_ok-claimed.claimed.1 in
    let v = c.in_ok-value.value in
    record {
      within = (omega (arith, c.loop-claimed.invariant.within.0, c.in_ok-claimed.ensures.later.0, c.in_ok-value.ensures.later.0, b.ensures.within.0, m.ensures.within.0), m.ensures.within.1);
      named = λ k e h.
          let around = frame.object ms n ∷ k in
          let ends = c.in_ok-value.ensures.ok around e (c.in_ok-claimed.ensures.ok k (c.loop-claimed.invariant.named k e h)) in
          let more = object_more w b.result ms n v k (pass_end w c.in_ok-value.end b.result v around b.ensures.within.0 b.ensures.blanks ends) is in
          rw c.in_ok-members.ensures (named_next w m.result (ms ++ (n, v) ∷ []) k m.ensures.stop (pass_name w (b.result + 1) m.result (ms ++ (n, v) ∷ []) k m.ensures.within.0 m.ensures.blanks more));
    }

pub value-returns-in-Some-Quote-clause-ok : goal.value-returns-in-Some-Quote-clause-ok
value-returns-in-Some-Quote-clause-ok t c =
    let w = c.args.text.now in
    let is : class_there w c.args.at ≡ Some class.Quote = grind arith in
    IfOk-weaker c.text_value.result _ _ (λ r ok k e h. ok k (start_on w c.args.at k k class.Quote (state.text Plain [] role.value) h is refl)) c.text_value.ensures.ok

pub value-returns-in-Some-Quote-clause-err : goal.value-returns-in-Some-Quote-clause-err
value-returns-in-Some-Quote-clause-err t c =
    let w = c.args.text.now in
    let is : class_there w c.args.at ≡ Some class.Quote = grind arith in
    IfErr-weaker c.text_value.result _ _ (λ r err k e h. err k (start_on w c.args.at k k class.Quote (state.text Plain [] role.value) h is refl)) c.text_value.ensures.err

pub value-returns-in-Some-OpenArray-clause-ok : goal.value-returns-in-Some-OpenArray-clause-ok
value-returns-in-Some-OpenArray-clause-ok t c =
    let w = c.args.text.now in
    let is : class_there w c.args.at ≡ Some class.OpenArray = grind arith in
    let more : 0 < c.args.room = grind arith in
    IfOk-weaker c.array.result _ _ (λ r ok k e h. ok k (omega (arith, e)) (start_on w c.args.at k k class.OpenArray state.first_item h is (few w state.first_item k (omega (arith, e))))) c.array.ensures.ok

pub value-returns-in-Some-OpenArray-clause-err : goal.value-returns-in-Some-OpenArray-clause-err
value-returns-in-Some-OpenArray-clause-err t c =
    let w = c.args.text.now in
    let is : class_there w c.args.at ≡ Some class.OpenArray = grind arith in
    let more : 0 < c.args.room = grind arith in
    IfErr-weaker c.array.result _ _ (λ r err k e h. err k (omega (arith, e)) (start_on w c.args.at k k class.OpenArray state.first_item h is (few w state.first_item k (omega (arith, e))))) c.array.ensures.err

pub value-returns-in-Some-OpenArray-2-clause-err : goal.value-returns-in-Some-OpenArray-2-clause-err
value-returns-in-Some-OpenArray-2-clause-err t c k e h =
    let w = c.args.text.now in
    let is : class_there w c.args.at ≡ Some class.OpenArray = grind arith in
    let none : c.args.room ≡ 0 = grind arith in
    start_deep w c.args.at k class.OpenArray state.first_item h is refl (omega (arith, e))

pub value-returns-in-Some-OpenObject-clause-ok : goal.value-returns-in-Some-OpenObject-clause-ok
value-returns-in-Some-OpenObject-clause-ok t c =
    let w = c.args.text.now in
    let is : class_there w c.args.at ≡ Some class.OpenObject = grind arith in
    let more : 0 < c.args.room = grind arith in
    IfOk-weaker c.object.result _ _ (λ r ok k e h. ok k (omega (arith, e)) (start_on w c.args.at k k class.OpenObject state.first_name h is (few w state.first_name k (omega (arith, e))))) c.object.ensures.ok

pub value-returns-in-Some-OpenObject-clause-err : goal.value-returns-in-Some-OpenObject-clause-err
value-returns-in-Some-OpenObject-clause-err t c =
    let w = c.args.text.now in
    let is : class_there w c.args.at ≡ Some class.OpenObject = grind arith in
    let more : 0 < c.args.room = grind arith in
    IfErr-weaker c.object.result _ _ (λ r err k e h. err k (omega (arith, e)) (start_on w c.args.at k k class.OpenObject state.first_name h is (few w state.first_name k (omega (arith, e))))) c.object.ensures.err

pub value-returns-in-Some-OpenObject-2-clause-err : goal.value-returns-in-Some-OpenObject-2-clause-err
value-returns-in-Some-OpenObject-2-clause-err t c k e h =
    let w = c.args.text.now in
    let is : class_there w c.args.at ≡ Some class.OpenObject = grind arith in
    let none : c.args.room ≡ 0 = grind arith in
    start_deep w c.args.at k class.OpenObject state.first_name h is refl (omega (arith, e))

pub value-returns-in-Some-Minus-clause-ok : goal.value-returns-in-Some-Minus-clause-ok
value-returns-in-Some-Minus-clause-ok t c =
    let w = c.args.text.now in
    let is : class_there w c.args.at ≡ Some class.Minus = grind arith in
    IfOk-weaker c.number.result _ _ (λ r ok k e h. ok k (start_on w c.args.at k k class.Minus (state.number part.Minus (get_or w c.args.at 0 ∷ [])) h is refl)) c.number.ensures.ok

pub value-returns-in-Some-Minus-clause-err : goal.value-returns-in-Some-Minus-clause-err
value-returns-in-Some-Minus-clause-err t c =
    let w = c.args.text.now in
    let is : class_there w c.args.at ≡ Some class.Minus = grind arith in
    IfErr-weaker c.number.result _ _ (λ r err k e h. err k (start_on w c.args.at k k class.Minus (state.number part.Minus (get_or w c.args.at 0 ∷ [])) h is refl)) c.number.ensures.err

pub value-returns-in-Some-Zero-clause-ok : goal.value-returns-in-Some-Zero-clause-ok
value-returns-in-Some-Zero-clause-ok t c =
    let w = c.args.text.now in
    let is : class_there w c.args.at ≡ Some class.Zero = grind arith in
    IfOk-weaker c.number-in-Some-Zero.result _ _ (λ r ok k e h. ok k (start_on w c.args.at k k class.Zero (state.number part.Zero (get_or w c.args.at 0 ∷ [])) h is refl)) c.number-in-Some-Zero.ensures.ok

pub value-returns-in-Some-Zero-clause-err : goal.value-returns-in-Some-Zero-clause-err
value-returns-in-Some-Zero-clause-err t c =
    let w = c.args.text.now in
    let is : class_there w c.args.at ≡ Some class.Zero = grind arith in
    IfErr-weaker c.number-in-Some-Zero.result _ _ (λ r err k e h. err k (start_on w c.args.at k k class.Zero (state.number part.Zero (get_or w c.args.at 0 ∷ [])) h is refl)) c.number-in-Some-Zero.ensures.err

pub value-returns-in-Some-Digit-clause-ok : goal.value-returns-in-Some-Digit-clause-ok
value-returns-in-Some-Digit-clause-ok t c =
    let w = c.args.text.now in
    let is : class_there w c.args.at ≡ Some class.Digit = grind arith in
    IfOk-weaker c.number-in-Some-Digit.result _ _ (λ r ok k e h. ok k (start_on w c.args.at k k class.Digit (state.number part.Whole (get_or w c.args.at 0 ∷ [])) h is refl)) c.number-in-Some-Digit.ensures.ok

pub value-returns-in-Some-Digit-clause-err : goal.value-returns-in-Some-Digit-clause-err
value-returns-in-Some-Digit-clause-err t c =
    let w = c.args.text.now in
    let is : class_there w c.args.at ≡ Some class.Digit = grind arith in
    IfErr-weaker c.number-in-Some-Digit.result _ _ (λ r err k e h. err k (start_on w c.args.at k k class.Digit (state.number part.Whole (get_or w c.args.at 0 ∷ [])) h is refl)) c.number-in-Some-Digit.ensures.err

pub value-returns-in-Some-LetterT-clause-ok : goal.value-returns-in-Some-LetterT-clause-ok
value-returns-in-Some-LetterT-clause-ok t c =
    let w = c.args.text.now in
    let is : class_there w c.args.at ≡ Some class.LetterT = grind arith in
    IfOk-weaker c.read.result _ _ (λ r ok k e h. ok k (start_on w c.args.at k k class.LetterT (state.word word.True 1) h is refl)) c.read.ensures.ok

pub value-returns-in-Some-LetterT-clause-err : goal.value-returns-in-Some-LetterT-clause-err
value-returns-in-Some-LetterT-clause-err t c =
    let w = c.args.text.now in
    let is : class_there w c.args.at ≡ Some class.LetterT = grind arith in
    IfErr-weaker c.read.result _ _ (λ r err k e h. err k (start_on w c.args.at k k class.LetterT (state.word word.True 1) h is refl)) c.read.ensures.err

pub value-returns-in-Some-LetterF-clause-ok : goal.value-returns-in-Some-LetterF-clause-ok
value-returns-in-Some-LetterF-clause-ok t c =
    let w = c.args.text.now in
    let is : class_there w c.args.at ≡ Some class.LetterF = grind arith in
    IfOk-weaker c.read-in-Some-LetterF.result _ _ (λ r ok k e h. ok k (start_on w c.args.at k k class.LetterF (state.word word.False 1) h is refl)) c.read-in-Some-LetterF.ensures.ok

pub value-returns-in-Some-LetterF-clause-err : goal.value-returns-in-Some-LetterF-clause-err
value-returns-in-Some-LetterF-clause-err t c =
    let w = c.args.text.now in
    let is : class_there w c.args.at ≡ Some class.LetterF = grind arith in
    IfErr-weaker c.read-in-Some-LetterF.result _ _ (λ r err k e h. err k (start_on w c.args.at k k class.LetterF (state.word word.False 1) h is refl)) c.read-in-Some-LetterF.ensures.err

pub value-returns-in-Some-LetterN-clause-ok : goal.value-returns-in-Some-LetterN-clause-ok
value-returns-in-Some-LetterN-clause-ok t c =
    let w = c.args.text.now in
    let is : class_there w c.args.at ≡ Some class.LetterN = grind arith in
    IfOk-weaker c.read-in-Some-LetterN.result _ _ (λ r ok k e h. ok k (start_on w c.args.at k k class.LetterN (state.word word.Null 1) h is refl)) c.read-in-Some-LetterN.ensures.ok

pub value-returns-in-Some-LetterN-clause-err : goal.value-returns-in-Some-LetterN-clause-err
value-returns-in-Some-LetterN-clause-err t c =
    let w = c.args.text.now in
    let is : class_there w c.args.at ≡ Some class.LetterN = grind arith in
    IfErr-weaker c.read-in-Some-LetterN.result _ _ (λ r err k e h. err k (start_on w c.args.at k k class.LetterN (state.word word.Null 1) h is refl)) c.read-in-Some-LetterN.ensures.err
