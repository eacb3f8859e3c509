-- The job that comes back if it wasn't sent.
use Rattle.compile_pool.specs.declared.jobs.Unsent.{Unsent}
use Rattle.compile_pool.specs.declared.jobs.Unsent.TheVariants.{NoRoom, NoWorker}
use Rattle.version_store.specs.Answers.{RequestedJob}

abbrev pub job_of : Unsent → RequestedJob
job_of (NoRoom job) = job
job_of (NoWorker job) = job
