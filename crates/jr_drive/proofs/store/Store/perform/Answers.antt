use Rattle.std.proofs.Common.{ap, sym, subst}
use Rattle.jr_base.specs.declared.action.Reply.TheVariants as replies
use Rattle.jr_meaning.specs.Machine.{Only, make}
use Rattle.jr_drive.specs.Stored.{Stored}
use Rattle.jr_drive.proofs.Stores.{stored-same}
use Rattle.jr_drive.proofs.store.Store.perform.Goals as goal

pub returns-in-Get-clause-reply : goal.returns-in-Get-clause-reply
returns-in-Get-clause-reply c = λ program world g stored.
    rw c.in-Get.is (ap Only (sym (c.get.ensures program world (stored-same program _ _ world c.self.view_is stored).made)))

pub returns-in-Put-clause-reply : goal.returns-in-Put-clause-reply
returns-in-Put-clause-reply c = λ program world g stored.
    rw c.in-Put.is (ap Only (sym (c.put.ensures.reply program world (stored-same program _ _ world c.self-in-Put.view_is stored).made)))

pub returns-in-Put-clause-stands : goal.returns-in-Put-clause-stands
returns-in-Put-clause-stands c = λ program world g stored.
    let before = stored-same program _ _ world c.self-in-Put.view_is stored in
    rw c.in-Put.is (record { made = c.put.ensures.stands program world before.made; blanks = before.blanks })

pub returns-in_ok-make-in-New-clause-reply : goal.returns-in_ok-make-in-New-clause-reply
returns-in_ok-make-in-New-clause-reply c = λ program world g stored.
    rw c.in-New.is (ap (λ o. Only (replies.Made o)) (sym (c.in_ok-make-in-New.ensures.object program world stored)))

pub returns-in_ok-make-in-New-clause-stands : goal.returns-in_ok-make-in-New-clause-stands
returns-in_ok-make-in-New-clause-stands c = λ program world g stored.
    rw c.in-New.is (subst (λ o. Stored program c.make.new.self (make program world c.in-New.kind (replies.Made o)))
    (sym (c.in_ok-make-in-New.ensures.object program world stored)) (c.in_ok-make-in-New.ensures.stands program world stored))

pub returns-in-Len-clause-reply : goal.returns-in-Len-clause-reply
returns-in-Len-clause-reply c = λ program world g stored.
    rw c.in-Len.is (ap Only (sym (c.length.ensures program world (stored-same program _ _ world c.self-in-Len.view_is stored).made)))
