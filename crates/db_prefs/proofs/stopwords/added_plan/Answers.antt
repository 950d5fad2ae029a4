use Rattle.std.proofs.Common.{◌≡◌, ◌<◌, ◌++◌, [], ◌∷◌, true, List, ℕ, length, sym, ap, subst, ◌∙◌, arith}
use Rattle.std.proofs.lemmas.Bool.{lt-leb}
use Rattle.std.proofs.lemmas.Str.{is_utf8-from_IsUtf8}
use Rattle.ct_base.specs.laws.Options.{none_or_some, same_value}
use Rattle.tx_stop.specs.StopKeys.{stop_limit}
use Rattle.tx_settings.specs.PrefsBytes.{are_words}
use Rattle.db_prefs.proofs.Plans.{stopword_made, stopword_planned, words_more}
use Rattle.db_prefs.proofs.stopwords.added_plan.Goals as goal

pub stoplist_changes-requires : goal.stoplist_changes-requires
stoplist_changes-requires c =
    let utf8 = is_utf8-from_IsUtf8 c.args.word.now c.utf8.word in
    let few : length c.args.words.items < stop_limit = omega arith in
    let more = c.in_ok-push.ensures.items ∙ ap (λ (t : List ℕ). c.args.words.items ++ t ∷ []) c.in_ok-of.ensures in
    subst (λ (ws : List (List ℕ)). are_words ws ≡ true) (sym (c.deref.ensures.value ∙ more)) (words_more c.args.word.now c.requires.length utf8 c.args.words.items c.requires.are few)

pub returns-in_default-clause-plan : goal.returns-in_default-clause-plan
returns-in_default-clause-plan c = λ fresh m k stands there.
    let made =
    stopword_made c.args.word.now c.requires.length (is_utf8-from_IsUtf8 c.args.word.now c.utf8.word) c.args.name.now c.args.words.items c.deref.result.now _ (stands.state.preferences.stoplists.each c.args.name.now c.args.words.items there)
    fresh (omega arith) (c.deref.ensures.value ∙ c.in_ok-push.ensures.items ∙ ap (λ (t : List ℕ). c.args.words.items ++ t ∷ []) c.in_ok-of.ensures) c.in_ok-batch.ensures.changes in
    absurd (none_or_some _ _ c.in_default.is made.1)

pub returns-clause-plan : goal.returns-clause-plan
returns-clause-plan c = λ fresh m k stands there.
    let few : length c.args.words.items < stop_limit = omega arith in
    let made =
    stopword_made c.args.word.now c.requires.length (is_utf8-from_IsUtf8 c.args.word.now c.utf8.word) c.args.name.now c.args.words.items c.deref.result.now _ (stands.state.preferences.stoplists.each c.args.name.now c.args.words.items there)
    fresh few (c.deref.ensures.value ∙ c.in_ok-push.ensures.items ∙ ap (λ (t : List ℕ). c.args.words.items ++ t ∷ []) c.in_ok-of.ensures) c.in_ok-batch.ensures.changes in
    stopword_planned k m c.args.name.now c.in-Some.batch stands c.args.word.now c.args.words.items there made.0 (lt-leb stop_limit (length c.args.words.items) few) (same_value _ _ (sym c.in-Some.is ∙ made.1))
