use Rattle.html_state.proofs.PlainTexts.{plain_data, plain_rawtext, plain_rcdata, plain_script, plain_style}
use Rattle.html_state.proofs.laws.law_plain_text.Goals as goal

pub returns-clause-in_data : goal.returns-clause-in_data
returns-clause-in_data c = plain_data

pub returns-clause-in_rcdata : goal.returns-clause-in_rcdata
returns-clause-in_rcdata c = plain_rcdata

pub returns-clause-in_rawtext : goal.returns-clause-in_rawtext
returns-clause-in_rawtext c = plain_rawtext

pub returns-clause-in_script : goal.returns-clause-in_script
returns-clause-in_script c = plain_script

pub returns-clause-in_style : goal.returns-clause-in_style
returns-clause-in_style c = plain_style
