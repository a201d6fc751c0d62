use Rattle.soy_front.proofs.FilesLaws.{fault_had, files_had, read_as, refused_as}
use Rattle.soy_front.proofs.laws.law_files.Goals as goal

pub returns-clause-read : goal.returns-clause-read
returns-clause-read c = read_as

pub returns-clause-refused : goal.returns-clause-refused
returns-clause-refused c = refused_as

pub returns-clause-only_files : goal.returns-clause-only_files
returns-clause-only_files c = files_had

pub returns-clause-only_fault : goal.returns-clause-only_fault
returns-clause-only_fault c = fault_had
