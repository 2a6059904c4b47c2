use Rattle.model.specs.Request.{fixed_words}
use Rattle.request.proofs.Laws.{no_words}
use Rattle.request.proofs.Says.{says_as}
use Rattle.request.proofs.arguments.arguments.Goals as goal

pub returns-in-Definition : goal.returns-in-Definition
returns-in-Definition c = rw c.in-Definition.is c.defining.ensures

pub returns-in-OneName : goal.returns-in-OneName
returns-in-OneName c = rw c.in-OneName.is c.one_name.ensures

pub returns-in-TwoNames : goal.returns-in-TwoNames
returns-in-TwoNames c = rw c.in-TwoNames.is c.two_names.ensures

pub returns-in-Password : goal.returns-in-Password
unfolding fixed_words
returns-in-Password c =
    rw c.in-Password.is (says_as c.if_fine.ensures (rw c.only_word.ensures))

pub returns-in-Alone : goal.returns-in-Alone
unfolding fixed_words
returns-in-Alone c =
    rw c.in-Alone.is (says_as c.if_fine-in-Alone.ensures (rw (c.ended.ensures, no_words)))

pub returns-in-Level : goal.returns-in-Level
returns-in-Level c = rw c.in-Level.is c.level.ensures

pub returns-in-Resultants : goal.returns-in-Resultants
returns-in-Resultants c = rw c.in-Resultants.is c.resultants.ensures
