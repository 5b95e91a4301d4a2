-- Forms of predicates that are lent, as the code has them.
use Rattle.std.specs.Prelude.{Option, option_map}
use Rattle.ts_query_names.specs.declared.form.Form.{Form as Lent}
use Rattle.ts_query_names.specs.declared.form.Form.TheVariants as lent
use Rattle.ts_query_names.specs.Asking.{AskedForm, text, pair, one_of, found, host, texts_in}

-- a form itself
abbrev pub form_told : Lent → AskedForm
form_told (lent.Text first written) = text first.now written.now
form_told (lent.Pair first other) = pair first.now other.now
form_told (lent.OneOf first texts) = one_of first.now (texts_in texts.now)
form_told (lent.Found first written) = found first.now written.now
form_told (lent.Host first place) = host first.now place

-- the form itself, if there is one
abbrev pub forms_told : Option Lent → Option AskedForm
forms_told = option_map form_told
