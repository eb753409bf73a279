use Rattle.iloc_rows.proofs.Growing.{unread_adds, misnamed_adds, rows_few}
use Rattle.iloc_rows.proofs.proposing.Proposing.add.Goals as goal

pub add_unread-requires : goal.add_unread-requires
add_unread-requires c = rows_few c.requires.1 c.requires.2

pub add_misnamed-requires : goal.add_misnamed-requires
add_misnamed-requires c = rows_few c.requires.1 c.requires.2

pub returns-in-Reads : goal.returns-in-Reads
returns-in-Reads c = rw c.in-Reads.is c.add_read.ensures

pub returns-in-Unread : goal.returns-in-Unread
returns-in-Unread c = λ lines h. rw c.in-Unread.is (unread_adds c.in-Unread.text.now c.args.number c.add_unread.new.self c.add_unread.result h c.add_unread.ensures)

pub returns-in-Misnamed : goal.returns-in-Misnamed
returns-in-Misnamed c = λ lines h. rw c.in-Misnamed.is (misnamed_adds c.in-Misnamed.block c.in-Misnamed.text.now c.args.number
    c.add_misnamed.new.self c.add_misnamed.result h c.add_misnamed.ensures)
