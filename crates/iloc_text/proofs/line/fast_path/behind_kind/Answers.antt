use Rattle.iloc_text.specs.Steps.Scan.{some_blanks_at, comma_at, arrow_at}
use Rattle.iloc_text.proofs.Places.{found_in, letter_in}
use Rattle.iloc_text.proofs.Tokens.{some_blanks_read, comma_read, arrow_read}
use Rattle.iloc_text.proofs.line.fast_path.behind_kind.Goals as goal

pub returns-in_ok-some_blanks_at-in-BlankRegister-clause-inside :
    goal.returns-in_ok-some_blanks_at-in-BlankRegister-clause-inside
returns-in_ok-some_blanks_at-in-BlankRegister-clause-inside c =
    letter_in _ _ _ _ (found_in _ c.args.bytes.now some_blanks_at c.some_blanks_at.result some_blanks_read c.some_blanks_at.ensures)
    c.in_ok-some_blanks_at-in-BlankRegister.was c.behind_letter.ensures.is

pub returns-in-BlankConstant-clause-inside : goal.returns-in-BlankConstant-clause-inside
returns-in-BlankConstant-clause-inside c =
    found_in _ c.args.bytes.now some_blanks_at c.some_blanks_at-in-BlankConstant.result some_blanks_read c.some_blanks_at-in-BlankConstant.ensures

pub returns-in_ok-comma_at-in-CommaRegister-clause-inside :
    goal.returns-in_ok-comma_at-in-CommaRegister-clause-inside
returns-in_ok-comma_at-in-CommaRegister-clause-inside c =
    letter_in _ _ _ _ (found_in _ c.args.bytes.now comma_at c.comma_at.result comma_read c.comma_at.ensures)
    c.in_ok-comma_at-in-CommaRegister.was c.behind_letter-in-CommaRegister.ensures.is

pub returns-in-CommaConstant-clause-inside : goal.returns-in-CommaConstant-clause-inside
returns-in-CommaConstant-clause-inside c =
    found_in _ c.args.bytes.now comma_at c.comma_at-in-CommaConstant.result comma_read c.comma_at-in-CommaConstant.ensures

pub returns-in_ok-arrow_at-in-ArrowRegister-clause-inside :
    goal.returns-in_ok-arrow_at-in-ArrowRegister-clause-inside
returns-in_ok-arrow_at-in-ArrowRegister-clause-inside c =
    letter_in _ _ _ _ (found_in _ c.args.bytes.now arrow_at c.arrow_at.result arrow_read c.arrow_at.ensures)
    c.in_ok-arrow_at-in-ArrowRegister.was c.behind_letter-in-ArrowRegister.ensures.is
