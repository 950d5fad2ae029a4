use Rattle.std.proofs.Common.{Some, ap, ◌∙◌}
use Rattle.tx_prefs.proofs.CopySteps.{no_words, no_group, all_copied}
use Rattle.tx_prefs.proofs.copying.copy.Goals as goal

pub returns-in_default-2-clause-copied : goal.returns-in_default-2-clause-copied
returns-in_default-2-clause-copied g c = λ m told ps holds.
    let later = c.in_ok-settings.ensures.reads.content ∙ told in
    no_words ps c.args.parameters.now c.in-Some.settings.items
    (rw c.in-Some.is at (c.in_ok-settings.ensures.settings m told ps holds))
    (rw c.in_default-2.is at (c.in_ok-words.ensures.words m later ps holds))

pub returns-in_default-3-clause-copied : goal.returns-in_default-3-clause-copied
returns-in_default-3-clause-copied g c = λ m told ps holds.
    let later = c.in_ok-settings.ensures.reads.content ∙ told in
    let last = c.in_ok-words.ensures.reads.content ∙ later in
    no_group ps c.args.parameters.now c.in-Some.settings.items c.in-Some-2.words.items
    (rw c.in-Some.is at (c.in_ok-settings.ensures.settings m told ps holds))
    (rw c.in-Some-2.is at (c.in_ok-words.ensures.words m later ps holds))
    (rw c.in_default-3.is at (c.in_ok-group.ensures.group m last ps holds))

pub returns-clause-copied : goal.returns-clause-copied
returns-clause-copied g c = λ m told ps holds.
    let later = c.in_ok-settings.ensures.reads.content ∙ told in
    let last = c.in_ok-words.ensures.reads.content ∙ later in
    all_copied ps c.args.parameters.now holds.rules c.deref.result.now c.deref-2.result.now c.in-Some-3.group c.in_ok-prefs.prefs
    (ap Some c.deref.ensures.value ∙ (rw c.in-Some.is at (c.in_ok-settings.ensures.settings m told ps holds)))
    (ap Some c.deref-2.ensures.value ∙ (rw c.in-Some-2.is at (c.in_ok-words.ensures.words m later ps holds)))
    (rw c.in-Some-3.is at (c.in_ok-group.ensures.group m last ps holds))
    c.in_ok-prefs.ensures.prefs
